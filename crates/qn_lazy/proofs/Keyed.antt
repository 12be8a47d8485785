-- Tuples found by their sectors on the shared legs.
use Rattle.std.proofs.Common.{◌≡◌, ℕ, ◌==◌, ◌&&◌, ◌||◌, Bool, true, false, cond, List, [], ◌∷◌, ◌++◌, filter, get_or, take, length, ◌<◌, ◌+◌, refl, sym, ◌∙◌, ap}
use Rattle.std.proofs.lemmas.List.{take_more}
use Rattle.std.proofs.lemmas.List.Elements.{filter-append}
use mathlib.Core.Path.{fun_ext}
use Rattle.std.specs.Prelude.{nat_eq}
use Rattle.std.specs.Cmp.Lexicographic.{pointwise, nat_list_eq_equiv}
use Rattle.std.specs.List.{list_any}
use Rattle.indexmap.specs.IndexSet.{IndexSet, Updates}
use Rattle.smallvec.specs.SmallVec.{SmallVec}
use Rattle.qn_value.specs.Tensors.{BlockValue}
use Rattle.qn_match.specs.Pairs.{agree}
use Rattle.qn_unmet.specs.Unmet.{is_met}
use Rattle.qn_lazy.specs.Keys.{first_sectors, second_sectors, has_key, AreKeys}

-- two tuples have one key exactly where they agree on the shared legs
one_key : (shared : List (ℕ × ℕ)) (t u : List ℕ) → pointwise nat_eq (first_sectors shared t) (second_sectors shared u) ≡ agree shared t u
one_key [] t u = refl
one_key (p ∷ ps) t u = ap (λ b. (get_or t p.0 0 == get_or u p.1 0) && b) (one_key ps t u)

abbrev pub same_key : SmallVec ℕ → SmallVec ℕ → Bool
same_key v w = pointwise nat_eq v.items w.items

either : (a b : Bool) → cond a true b ≡ (a || b)
either true b = refl
either false b = refl

pub key_added : {S : Type 0} (m n : IndexSet (SmallVec ℕ) S) (key : SmallVec ℕ) → Updates same_key m n key true →
    (other : List ℕ) → has_key n other ≡ (pointwise nat_eq other key.items || has_key m other)
key_added m n key up other =
    up.0 (record { items = other; capacity = 0 })
    ∙ ap (λ b. cond b true (has_key m other)) (nat_list_eq_equiv.symm key.items other)
    ∙ either (pointwise nat_eq other key.items) (has_key m other)

pub met_by_keys : {S : Type 0} (shared : List (ℕ × ℕ)) (blocks : List BlockValue) (keys : IndexSet (SmallVec ℕ) S) → AreKeys shared blocks keys →
    (ts : List (List ℕ)) → filter (λ t. has_key keys (first_sectors shared t)) ts ≡ filter (is_met shared blocks) ts
met_by_keys shared blocks keys h ts =
    ap (λ p. filter p ts) (fun_ext (λ t. h (first_sectors shared t) ∙ ap (λ f. list_any f blocks) (fun_ext (λ (b : BlockValue). one_key shared t b.tuple))))

-- what was kept of a list's first elements, and of the next
pub filter_more : (p : List ℕ → Bool) (out new ts : List (List ℕ)) (i : ℕ) (t : List ℕ) → i < length ts → t ≡ get_or ts i t →
    out ≡ filter p (take i ts) → new ≡ out ++ filter p (t ∷ []) → new ≡ filter p (take (i + 1) ts)
filter_more p out new ts i t lt is before e =
    e
    ∙ ap (λ (xs : List (List ℕ)). xs ++ filter p (t ∷ [])) before
    ∙ sym (filter-append p (take i ts) (t ∷ []))
    ∙ ap (filter p) (ap (λ u. take i ts ++ u ∷ []) is ∙ sym (take_more ts i t lt))
