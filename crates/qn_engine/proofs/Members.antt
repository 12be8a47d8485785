-- The parts of members, one by one.
use Rattle.std.proofs.Common.{◌≡◌, ◌<◌, ℕ, zero, suc, ◌+◌, List, [], ◌∷◌, ◌++◌, sym, ◌∙◌, ap, ap₂, subst, length, take, get_or, add-one, arith}
use Rattle.qn_net.specs.Members.{LabelledMember}
use Rattle.qn_engine.specs.Parts.{PartValue, member_parts}

abbrev part_as : ℕ → LabelledMember → PartValue
part_as n m = record { number = n; member = m.member; labels = m.labels }

parts_suc : (n i k : ℕ) (ms : List LabelledMember) (m : LabelledMember) → i < length ms → m ≡ get_or ms i m → k ≡ n + i → member_parts n (take (suc i) ms) ≡ member_parts n (take i ms) ++ part_as k m ∷ []
parts_suc n i k [] m h e q = absurd (omega (arith, h))
parts_suc n zero k (x ∷ ms) m h e q = ap₂ (λ (l : ℕ) (y : LabelledMember). part_as l y ∷ []) (sym (q ∙ omega arith)) (sym e)
parts_suc n (suc i) k (x ∷ ms) m h e q = ap (λ ps. part_as n x ∷ ps) (parts_suc (suc n) i k ms m (omega (arith, h)) e (omega (arith, q)))

pub parts_more : (i k : ℕ) (ms : List LabelledMember) (m : LabelledMember) → i < length ms → m ≡ get_or ms i m → k ≡ i + 1 → member_parts 1 (take (i + 1) ms) ≡ member_parts 1 (take i ms) ++ part_as k m ∷ []
parts_more i k ms m h e q = subst (λ j. member_parts 1 (take j ms) ≡ member_parts 1 (take i ms) ++ part_as k m ∷ []) (sym (add-one i)) (parts_suc 1 i k ms m h e (omega (arith, q)))
