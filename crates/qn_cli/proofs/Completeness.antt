-- A call on a source that tells its bytes.
use Rattle.std.proofs.Common.{◌≡◌, ◌⊎◌, inl, inr, ℕ, ◌<◌, ◌≤◌, List, [], ◌++◌, length, Some, None, refl, sym, ap, subst, ◌∙◌, arith, append-nil, length-append, Bool, true, false}
use Rattle.std.proofs.lemmas.Bool.{false≢true}
use Rattle.std.specs.Prelude.{Option, IfSome, Result, Ok, if◌then◌else◌}
use Rattle.std.proofs.KnownBytes.{Consumes-nil, Keeps-refl}
use Rattle.std.specs.Io.KnownBytes.{Consumes, Appends, IsAtEnd}
use Rattle.qn_parts.specs.declared.fault.Fault.{Fault}
use Rattle.qn_words.specs.declared.words.Job.{Job}
use Rattle.qn_words.specs.declared.words.Job.TheVariants.{Mpo}
use Rattle.qn_cli.specs.declared.status.Status.{Status}
use Rattle.qn_cli.specs.declared.status.Status.TheVariants.{Done, Usage, Malformed, Passed, ReadFault, WriteFault, Memory}
use Rattle.qn_cli.specs.Outcomes.{Outcome, refused, passed, answered, most_bytes}
use Rattle.qn_cli.specs.Operators.{HasElementsIn}
use Rattle.qn_cli.specs.Jobs.{ComesTo, Multiplies, document, is_read}
use Rattle.qn_cli.specs.Answers.{EndsOn, IsStatusOf, ReadsToEnd, Refuses, Tells}
use Rattle.qn_mps.specs.SameNetworks.{SameOverlapLaw, SameExpectLaw}
use Rattle.qn_cli.proofs.Outcomes.{one_outcome, long_refused, unread_bytes}

-- the bytes that came are all of them
all_came : (all : List ℕ) (left : Option (List ℕ)) (bytes : List ℕ) → Consumes (Some all) left bytes → IsAtEnd left → bytes ≡ all
all_came all None bytes came end = absurd came
all_came all (Some ys) bytes came end = sym (came ∙ ap (λ l. bytes ++ l) end ∙ append-nil bytes)

-- more came than may, so more are there
too_many : (all : List ℕ) (left : Option (List ℕ)) (bytes : List ℕ) → Consumes (Some all) left bytes → most_bytes < length bytes → most_bytes < length all
too_many all None bytes came many = absurd came
too_many all (Some ys) bytes came many = omega (arith, ap length came, length-append bytes ys, many)

-- an outcome of the bytes that came is one of the whole document, which is known

module _ (job : Job) (all : List ℕ) (left_old left : Option (List ℕ)) (bytes : List ℕ) (doc : document job left_old ≡ Some all) (came : Consumes left_old left bytes) where
  all_left : is_read job ≡ true → Consumes (Some all) left bytes
  all_left e = subst (λ (l : Option (List ℕ)). Consumes l left bytes) (ap (λ c. if c then left_old else Some []) (sym e) ∙ doc) came

  by_all : (o : Outcome) (P : Type 0) → (is_read job ≡ true → P) → (is_read job ≡ true → P → ComesTo job all o) → ComesTo job bytes o → ComesTo job all o
  by_all o P at_end then_all comes = by (is_read job) refl
    where
      by : (b : Bool) → is_read job ≡ b → ComesTo job all o
      by true e = then_all e (at_end e)
      by false e = unread_bytes job bytes all o e comes

  comes_whole : (o : Outcome) → (is_read job ≡ true → IsAtEnd left) → ComesTo job bytes o → ComesTo job all o
  comes_whole o at_end comes =
      by_all o (IsAtEnd left) at_end (λ e end. subst (λ bs. ComesTo job bs o) (all_came all left bytes (all_left e) end) comes) comes

  refused_whole : (f : Fault) → (is_read job ≡ true → IsAtEnd left ⊎ (most_bytes < length bytes)) → ComesTo job bytes (refused f) → ComesTo job all (refused f)
  refused_whole f at_end comes = by_all (refused f) (IsAtEnd left ⊎ (most_bytes < length bytes)) at_end by comes
    where
      by : is_read job ≡ true → IsAtEnd left ⊎ (most_bytes < length bytes) → ComesTo job all (refused f)
      by e (inl end) = subst (λ bs. ComesTo job bs (refused f)) (all_came all left bytes (all_left e) end) comes
      by e (inr many) = long_refused job bytes all f many (too_many all left bytes (all_left e) many) comes

-- what the status stands for: an outcome of the whole document; or a read failed, or memory was wanting
abbrev Stands : Job → List ℕ → Status → Type 0
Stands job all s = ((o : Outcome) × ComesTo job all o × IsStatusOf o s) ⊎ (s ≡ ReadFault) ⊎ (s ≡ Memory)

stands : (job : Job) (all : List ℕ) (left_old left held_old held_new : Option (List ℕ)) (before now : ℕ) (s : Status) (bytes : List ℕ) → document job left_old ≡ Some all
    → EndsOn job left_old left held_old held_new before now s bytes → Stands job all s
stands job all left_old left held_old held_new before now Done bytes doc ends =
    inl (answered ends.tells.0, comes_whole job all left_old left bytes doc ends.came (answered ends.tells.0) ends.end ends.tells.1, inl refl)
stands job all left_old left held_old held_new before now (Usage word) bytes doc ends = absurd ends.tells
stands job all left_old left held_old held_new before now (Malformed f) bytes doc ends =
    inl (refused f, refused_whole job all left_old left bytes doc ends.came f ends.end ends.tells.0, refl)
stands job all left_old left held_old held_new before now (Passed step at offset) bytes doc ends =
    inl (passed step at offset, comes_whole job all left_old left bytes doc ends.came (passed step at offset) ends.end ends.tells.0, refl)
stands job all left_old left held_old held_new before now ReadFault bytes doc ends = inr (inl refl)
stands job all left_old left held_old held_new before now WriteFault bytes doc ends =
    inl (answered ends.tells.0, comes_whole job all left_old left bytes doc ends.came (answered ends.tells.0) ends.end ends.tells.1, inr refl)
stands job all left_old left held_old held_new before now Memory bytes doc ends = inr (inr refl)

-- without a read fault the status is that of the outcome, or want of memory
status_or_memory : SameOverlapLaw × SameExpectLaw → (job : Job) (all : List ℕ) (o : Outcome) (s : Status) → ComesTo job all o → Stands job all s → (s ≡ ReadFault → ⊥) → IsStatusOf o s ⊎ (s ≡ Memory)
status_or_memory law job all o s comes (inl p) no_read = inl (subst (λ q. IsStatusOf q s) (one_outcome law job all p.0 o p.1 comes) p.2)
status_or_memory law job all o s comes (inr (inl read)) no_read = absurd (no_read read)
status_or_memory law job all o s comes (inr (inr memory)) no_read = inr memory

abbrev text_in : Outcome → List ℕ
text_in (refused f) = []
text_in (passed step at offset) = []
text_in (answered text) = text

-- with Done the whole text was written
written : SameOverlapLaw × SameExpectLaw → (job : Job) (all text : List ℕ) (left_old left held_old held_new : Option (List ℕ)) (before now : ℕ) (s : Status) (bytes : List ℕ) → document job left_old ≡ Some all
    → EndsOn job left_old left held_old held_new before now s bytes → ComesTo job all (answered text) → s ≡ Done → Appends held_old held_new text
written law job all text left_old left held_old held_new before now s bytes doc ends comes is = by (subst (λ (t : Status). EndsOn job left_old left held_old held_new before now t bytes) is ends)
  where
    by : EndsOn job left_old left held_old held_new before now Done bytes → Appends held_old held_new text
    by e =
        let there = comes_whole job all left_old left bytes doc e.came (answered e.tells.0) e.end e.tells.1 in
        subst (Appends held_old held_new) (ap text_in (one_outcome law job all (answered e.tells.0) (answered text) there comes)) e.tells.2

done_or_memory : (s : Status) (P : Type 0) → (s ≡ Done → P) → (s ≡ WriteFault → ⊥) → (((s ≡ Done) ⊎ (s ≡ WriteFault)) ⊎ (s ≡ Memory)) → ((s ≡ Done) × P) ⊎ (s ≡ Memory)
done_or_memory s P done no_write (inl (inl is)) = inl (is, done is)
done_or_memory s P done no_write (inl (inr is)) = absurd (no_write is)
done_or_memory s P done no_write (inr memory) = inr memory

module _ (law : SameOverlapLaw × SameExpectLaw) (o : Result Job ℕ) (left_old left held_old held_new : Option (List ℕ)) (before now : ℕ) (result : Status) (reads : Type 0)
    (ends : (job : Job) → o ≡ Ok job → (bytes : List ℕ) × EndsOn job left_old left held_old held_new before now result bytes) (read : result ≡ ReadFault → reads) where
  -- where there is an answer and nothing failed, it is written, or memory was wanting; where the document is known
  pub complete : (writes : Type 0) → (result ≡ WriteFault → writes) → (job : Job) → o ≡ Ok job
      → IfSome (document job left_old) (λ all. (text : List ℕ) → ComesTo job all (answered text) → (reads → ⊥) → (writes → ⊥) → ((result ≡ Done) × Appends held_old held_new text) ⊎ (result ≡ Memory))
  complete writes write job is_job = by (document job left_old) refl
    where
      by : (d : Option (List ℕ)) → document job left_old ≡ d
          → IfSome d (λ all. (text : List ℕ) → ComesTo job all (answered text) → (reads → ⊥) → (writes → ⊥) → ((result ≡ Done) × Appends held_old held_new text) ⊎ (result ≡ Memory))
      by None doc = tt
      by (Some all) doc =
          λ text comes no_read no_write.
          let e = ends job is_job in
          let s = stands job all left_old left held_old held_new before now result e.0 doc e.1 in
          done_or_memory result (Appends held_old held_new text) (written law job all text left_old left held_old held_new before now result e.0 doc e.1 comes) (λ w. no_write (write w))
          (status_or_memory law job all (answered text) result comes s (λ r. no_read (read r)))

  -- the status is that of the outcome of the document, where that is known
  pub exact : (job : Job) → o ≡ Ok job
      → IfSome (document job left_old) (λ all. (outcome : Outcome) → ComesTo job all outcome → (reads → ⊥) → IsStatusOf outcome result ⊎ (result ≡ Memory))
  exact job is_job = by (document job left_old) refl
    where
      by : (d : Option (List ℕ)) → document job left_old ≡ d
          → IfSome d (λ all. (outcome : Outcome) → ComesTo job all outcome → (reads → ⊥) → IsStatusOf outcome result ⊎ (result ≡ Memory))
      by None doc = tt
      by (Some all) doc =
          λ outcome comes no_read.
          let e = ends job is_job in
          status_or_memory law job all outcome result comes (stands job all left_old left held_old held_new before now result e.0 doc e.1) (λ r. no_read (read r))

-- ---- how the parts of a call end

-- where the document is read to its end
pub read_whole : (job : Job) (left_old left held_old held_new : Option (List ℕ)) (before now : ℕ) (s : Status) (bytes : List ℕ) → Consumes left_old left bytes → IsAtEnd left
    → length bytes ≤ most_bytes → Tells job bytes held_old held_new s → Multiplies job bytes before now → (s ≡ Done → job ≡ Mpo → HasElementsIn bytes)
    → EndsOn job left_old left held_old held_new before now s bytes
read_whole job left_old left held_old held_new before now s bytes came end within tells cost elements =
    record { came = came; within = omega (arith, within); end = λ is. by s tells; tells = tells; cost = cost; elements = elements }
  where
    by : (s : Status) → Tells job bytes held_old held_new s → ReadsToEnd s bytes left
    by Done t = end
    by (Usage word) t = t
    by (Malformed f) t = inl end
    by (Passed step at offset) t = end
    by ReadFault t = tt
    by WriteFault t = end
    by Memory t = tt

-- where it is not read
pub unread : (job : Job) (left held_old held_new : Option (List ℕ)) (before now : ℕ) (s : Status) → is_read job ≡ false
    → Tells job [] held_old held_new s → Multiplies job [] before now → EndsOn job left left held_old held_new before now s []
unread job left held_old held_new before now s is tells cost =
    record {
      came = Consumes-nil left;
      within = omega arith;
      end = λ yes. absurd (false≢true (sym is ∙ yes));
      tells = tells;
      cost = cost;
      elements = λ done mpo. absurd (false≢true (sym is ∙ ap is_read mpo));
    }

-- a status in the place of a text: nothing was written
pub refusal_told : (job : Job) (bytes : List ℕ) (held : Option (List ℕ)) (s : Status) → Refuses job bytes s → Tells job bytes held held s
refusal_told job bytes held Done p = absurd p
refusal_told job bytes held (Usage word) p = p
refusal_told job bytes held (Malformed f) p = (p, Keeps-refl held)
refusal_told job bytes held (Passed step at offset) p = (p, Keeps-refl held)
refusal_told job bytes held ReadFault p = absurd p
refusal_told job bytes held WriteFault p = absurd p
refusal_told job bytes held Memory p = Keeps-refl held
