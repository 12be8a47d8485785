-- Multiplications in terms of the whole document, where the source tells it.
use Rattle.std.proofs.Common.{◌≡◌, ℕ, List, ◌++◌, Some, None, sym, ap, subst, ◌∙◌, append-nil}
use Rattle.std.specs.Prelude.{Option, IfSome, if◌then◌else◌, [], true, false}
use Rattle.std.specs.Io.KnownBytes.{Consumes, IsAtEnd}
use Rattle.qn_words.specs.declared.words.Job.{Job}
use Rattle.qn_cli.specs.Jobs.{Multiplies, document, is_read}
use Rattle.qn_cli.proofs.Costs.{nothing}

pub nothing_known : (job : Job) (left : Option (List ℕ)) (before : ℕ) → IfSome left (λ all. Multiplies job all before before)
nothing_known job None before = tt
nothing_known job (Some all) before = nothing job all before

pub whole_known : (job : Job) (left_old left : Option (List ℕ)) (bytes : List ℕ) (before now : ℕ) → Consumes left_old left bytes → IsAtEnd left → Multiplies job bytes before now
    → IfSome left_old (λ all. Multiplies job all before now)
whole_known job None left bytes before now came end many = tt
whole_known job (Some all) None bytes before now came end many = absurd came
whole_known job (Some all) (Some ys) bytes before now came end many =
    subst (λ bs. Multiplies job bs before now) (sym (came ∙ ap (λ l. bytes ++ l) end ∙ append-nil bytes)) many

pub read_known : (job : Job) (left : Option (List ℕ)) (before now : ℕ) → is_read job ≡ true → IfSome left (λ all. Multiplies job all before now)
    → IfSome (document job left) (λ all. Multiplies job all before now)
read_known job left before now is many = subst (λ (l : Option (List ℕ)). IfSome l (λ all. Multiplies job all before now)) (ap (λ c. if c then left else Some []) (sym is)) many

pub unread_known : (job : Job) (left : Option (List ℕ)) (before now : ℕ) → is_read job ≡ false → Multiplies job [] before now
    → IfSome (document job left) (λ all. Multiplies job all before now)
unread_known job left before now is many = subst (λ (l : Option (List ℕ)). IfSome l (λ all. Multiplies job all before now)) (ap (λ c. if c then left else Some []) (sym is)) many
