-- Tensors that are twisted before a step, and the groups whose tensors they are.
use Rattle.std.proofs.Common.{◌≡◌, ◌<◌, ℕ, zero, suc, ◌+◌, ◌≤◌, ℤ, pos, Bool, true, false, ◌&&◌, ◌||◌, cond, List, [], ◌∷◌, ◌++◌, refl, sym, ◌∙◌, ap, ap₂, subst, map, filter, length, get_or, drop, add-one, append-nil, append_assoc, int_eq, ◌⊎◌, inl, inr, arith}
use mathlib.Core.Path.{fun_ext}
use Rattle.std.specs.List.{All}
use Rattle.std.proofs.lemmas.Bool.{or_left}
use Rattle.qn_sign.specs.Sign.{is_in, xor}
use Rattle.qn_gauss.specs.Gaussian.{zero_g, signed}
use Rattle.qn_charge.specs.declared.factor.Factor.{Factor}
use Rattle.qn_charge.specs.Charges.{parity}
use Rattle.qn_index.specs.Legs.{SectorValue, LegValue, parity_at}
use Rattle.qn_index.specs.Places.{IsValues}
use Rattle.qn_value.specs.Networks.{End, Bond, labels}
use Rattle.qn_value.specs.Twists.{odd_among, is_twisted}
use Rattle.qn_value.specs.Fluxes.{arrow_of}
use Rattle.qn_value.specs.Blocks.{legs_on}
use Rattle.qn_value.specs.Labels.{Placed, is_inward}
use Rattle.qn_value.specs.Tensors.{TensorValue, IsTensor, entry_of}
use Rattle.qn_value.proofs.BlockRows.{all-nil, all-cons}
use Rattle.qn_value.proofs.NetLaws.{signed-zero}
use Rattle.qn_value.proofs.Sums.{label_test}
use Rattle.qn_net.specs.Groups.{TensorGroup}
use Rattle.qn_net.specs.Operations.{parities_on, IsTensorOf, AreTwistedLines}
use Rattle.qn_net.specs.TwistedSteps.{twisted_group, twisted_where, twisted_inward}
use Rattle.qn_net.proofs.Held.{entry_range, arrow_there}
use Rattle.qn_twist.specs.Twisted.{leg_at, odd_values, Twisted}
use Rattle.qn_engine.specs.Parts.{IsSameTensor}
use Rattle.qn_engine.specs.Twisting.{is_twisted_leg, twisted_places}

-- one leg more
places_more : (all : Bool) (summed twist : List ℤ) (m i : ℕ) (gs : List LegValue) (ls : List ℤ) (g : LegValue) → i < length gs → length ls ≡ length gs → g ≡ get_or gs i g →
    cond (is_twisted_leg all summed twist (is_inward g.arrow) (get_or ls i (pos 0))) (m ∷ []) [] ++ twisted_places all summed twist (suc m) (drop (suc i) gs) (drop (suc i) ls) ≡
    twisted_places all summed twist m (drop i gs) (drop i ls)
places_more all summed twist m i [] ls g lt e eg = absurd (omega (arith, lt))
places_more all summed twist m i (x ∷ gs) [] g lt e eg = absurd (omega (arith, e))
places_more all summed twist m zero (x ∷ gs) (k ∷ ls) g lt e eg =
    ap (λ (y : LegValue). cond (is_twisted_leg all summed twist (is_inward y.arrow) k) (m ∷ []) [] ++ twisted_places all summed twist (suc m) gs ls) eg
    ∙ by (is_twisted_leg all summed twist (is_inward x.arrow) k)
  where
    by : (b : Bool) → cond b (m ∷ []) [] ++ twisted_places all summed twist (suc m) gs ls ≡ cond b (m ∷ twisted_places all summed twist (suc m) gs ls) (twisted_places all summed twist (suc m) gs ls)
    by true = refl
    by false = refl
places_more all summed twist m (suc i) (x ∷ gs) (k ∷ ls) g lt e eg = places_more all summed twist m i gs ls g (omega (arith, lt)) (omega (arith, e)) eg

pub places_next : (all : Bool) (summed twist : List ℤ) (i : ℕ) (gs : List LegValue) (ls : List ℤ) (g : LegValue) (b : Bool) (ps qs whole : List ℕ) → i < length gs → length ls ≡ length gs → g ≡ get_or gs i g →
    b ≡ is_twisted_leg all summed twist (is_inward g.arrow) (get_or ls i (pos 0)) → qs ≡ ps ++ cond b (i ∷ []) [] → ps ++ twisted_places all summed twist i (drop i gs) (drop i ls) ≡ whole →
    qs ++ twisted_places all summed twist (i + 1) (drop (i + 1) gs) (drop (i + 1) ls) ≡ whole
places_next all summed twist i gs ls g b ps qs whole lt e eg eb eq h =
    ap (λ n. qs ++ twisted_places all summed twist n (drop n gs) (drop n ls)) (add-one i)
    ∙ ap (λ xs. xs ++ rest) (eq ∙ ap (λ t. ps ++ cond t (i ∷ []) []) eb)
    ∙ append_assoc ps (cond (is_twisted_leg all summed twist (is_inward g.arrow) (get_or ls i (pos 0))) (i ∷ []) []) rest
    ∙ ap (λ xs. ps ++ xs) (places_more all summed twist i i gs ls g lt e eg)
    ∙ h
  where
    rest : List ℕ
    rest = twisted_places all summed twist (suc i) (drop (suc i) gs) (drop (suc i) ls)

pub places_end : (all : Bool) (summed twist : List ℤ) (i : ℕ) (gs : List LegValue) (ls : List ℤ) (ps whole : List ℕ) → length gs ≤ i → ps ++ twisted_places all summed twist i (drop i gs) ls ≡ whole → ps ≡ whole
places_end all summed twist i gs ls ps whole le h = sym (ap (λ xs. ps ++ xs) (none i gs i ls le) ∙ append-nil ps) ∙ h
  where
    none : (m : ℕ) (gs : List LegValue) (i : ℕ) (ls : List ℤ) → length gs ≤ i → twisted_places all summed twist m (drop i gs) ls ≡ []
    none m [] zero ls le = refl
    none m [] (suc i) ls le = refl
    none m (g ∷ gs) zero ls le = absurd (omega (arith, le))
    none m (g ∷ gs) (suc i) ls le = none m gs i ls (omega (arith, le))

-- the places are those of legs
within_from : (all : Bool) (summed twist : List ℤ) (n m : ℕ) (gs : List LegValue) (ls : List ℤ) → n + length gs ≡ m → All (λ k. k < m) (twisted_places all summed twist n gs ls)
within_from all summed twist n m [] ls e = all-nil (λ k. k < m)
within_from all summed twist n m (g ∷ gs) [] e = all-nil (λ k. k < m)
within_from all summed twist n m (g ∷ gs) (l ∷ ls) e = go (is_twisted_leg all summed twist (is_inward g.arrow) l) (within_from all summed twist (suc n) m gs ls (omega (arith, e)))
  where
    go : (b : Bool) → All (λ k. k < m) (twisted_places all summed twist (suc n) gs ls) →
        All (λ k. k < m) (cond b (n ∷ twisted_places all summed twist (suc n) gs ls) (twisted_places all summed twist (suc n) gs ls))
    go true h = all-cons (λ k. k < m) n (twisted_places all summed twist (suc n) gs ls) (omega (arith, e)) h
    go false h = h

pub places_within : (all : Bool) (summed twist : List ℤ) (gs : List LegValue) (ls : List ℤ) → All (λ k. k < length gs) (twisted_places all summed twist 0 gs ls)
places_within all summed twist gs ls = within_from all summed twist 0 (length gs) gs ls (omega arith)

-- the parity at these places is that of the ends that pass a test

later : (all : Bool) (summed twist : List ℤ) (n : ℕ) (gs : List LegValue) (ls : List ℤ) → twisted_places all summed twist (suc n) gs ls ≡ map suc (twisted_places all summed twist n gs ls)
later all summed twist n [] ls = refl
later all summed twist n (g ∷ gs) [] = refl
later all summed twist n (g ∷ gs) (l ∷ ls) = go (is_twisted_leg all summed twist (is_inward g.arrow) l) (later all summed twist (suc n) gs ls)
  where
    go : (b : Bool) → twisted_places all summed twist (suc (suc n)) gs ls ≡ map suc (twisted_places all summed twist (suc n) gs ls) →
        cond b (suc n ∷ twisted_places all summed twist (suc (suc n)) gs ls) (twisted_places all summed twist (suc (suc n)) gs ls)
        ≡ map suc (cond b (n ∷ twisted_places all summed twist (suc n) gs ls) (twisted_places all summed twist (suc n) gs ls))
    go true h = ap (λ ks. suc n ∷ ks) h
    go false h = h

behind_first : (fs : List Factor) (g : LegValue) (gs : List LegValue) (x : ℕ) (xs ks : List ℕ) → odd_values fs (g ∷ gs) (map suc ks) (x ∷ xs) ≡ odd_values fs gs ks xs
behind_first fs g gs x xs [] = refl
behind_first fs g gs x xs (k ∷ ks) = ap (xor (parity_at fs (leg_at gs k).sectors (get_or xs k 0))) (behind_first fs g gs x xs ks)

pub odd_places : (fs : List Factor) (sectors : ℤ → List SectorValue) (all : Bool) (summed twist : List ℤ) (es : List End) (xs : List ℕ) → length xs ≡ length es →
    odd_values fs (legs_on sectors es) (twisted_places all summed twist 0 (legs_on sectors es) (map (λ e. e.label) es)) xs ≡
    odd_among (parities_on fs sectors) (λ e. is_twisted_leg all summed twist e.inward e.label) es xs
odd_places fs sectors all summed twist [] xs l = refl
odd_places fs sectors all summed twist (e ∷ es) [] l = absurd (omega (arith, l))
odd_places fs sectors all summed twist (e ∷ es) (x ∷ xs) l =
    ap (λ b. odd_values fs (legs_on sectors (e ∷ es)) (cond (is_twisted_leg all summed twist b e.label) (0 ∷ rest) rest) (x ∷ xs)) (arrow_there e.inward)
    ∙ go (is_twisted_leg all summed twist e.inward e.label) (odd_places fs sectors all summed twist es xs (omega (arith, l)))
  where
    rest : List ℕ
    rest = twisted_places all summed twist 1 (legs_on sectors es) (map (λ e. e.label) es)

    behind : odd_values fs (legs_on sectors (e ∷ es)) rest (x ∷ xs) ≡ odd_values fs (legs_on sectors es) (twisted_places all summed twist 0 (legs_on sectors es) (map (λ e. e.label) es)) xs
    behind =
        ap (λ ks. odd_values fs (legs_on sectors (e ∷ es)) ks (x ∷ xs)) (later all summed twist 0 (legs_on sectors es) (map (λ e. e.label) es))
        ∙ behind_first fs (record { arrow = arrow_of e.inward; sectors = sectors e.label }) (legs_on sectors es) x xs (twisted_places all summed twist 0 (legs_on sectors es) (map (λ e. e.label) es))

    go : (b : Bool) → odd_values fs (legs_on sectors es) (twisted_places all summed twist 0 (legs_on sectors es) (map (λ e. e.label) es)) xs ≡
        odd_among (parities_on fs sectors) (λ e. is_twisted_leg all summed twist e.inward e.label) es xs →
        odd_values fs (legs_on sectors (e ∷ es)) (cond b (0 ∷ rest) rest) (x ∷ xs) ≡
        xor (b && parity_at fs (sectors e.label) x) (odd_among (parities_on fs sectors) (λ e. is_twisted_leg all summed twist e.inward e.label) es xs)
    go true h = ap (xor (parity_at fs (sectors e.label) x)) (behind ∙ h)
    go false h = behind ∙ h

-- the twisted ends of a step's lines

marked_here : (tw : List ℤ) (sectors : ℤ → List SectorValue) (bs : List Bond) → AreTwistedLines tw sectors bs → (l : ℤ) →
    (is_in int_eq l (labels bs) && is_in int_eq l tw) ≡ is_in int_eq l (labels (filter (λ b. b.twisted) bs))
marked_here tw sectors [] h l = refl
marked_here tw sectors (b ∷ bs) h l =
    by (int_eq l b.label) refl (marked_here tw sectors bs h.2 l)
    ∙ ap (λ t. is_in int_eq l (labels (cond t (b ∷ filter (λ b. b.twisted) bs) (filter (λ b. b.twisted) bs)))) (sym h.1)
  where
    nothing : (x y : Bool) → y ≡ false → (x && y) ≡ false
    nothing true y e = e
    nothing false y e = refl

    by : (e : Bool) → int_eq l b.label ≡ e → (is_in int_eq l (labels bs) && is_in int_eq l tw) ≡ is_in int_eq l (labels (filter (λ b. b.twisted) bs)) →
        ((e || is_in int_eq l (labels bs)) && is_in int_eq l tw) ≡
        is_in int_eq l (labels (cond (is_in int_eq b.label tw) (b ∷ filter (λ b. b.twisted) bs) (filter (λ b. b.twisted) bs)))
    by true q ih = at (is_in int_eq b.label tw) refl
      where
        same : is_in int_eq l tw ≡ is_in int_eq b.label tw
        same = ap (λ k. is_in int_eq k tw) (label_test.equal l b.label q)

        at : (t : Bool) → is_in int_eq b.label tw ≡ t → is_in int_eq l tw ≡ is_in int_eq l (labels (cond t (b ∷ filter (λ b. b.twisted) bs) (filter (λ b. b.twisted) bs)))
        at true r = same ∙ r ∙ sym (or_left (int_eq l b.label) (is_in int_eq l (labels (filter (λ b. b.twisted) bs))) q)
        at false r = same ∙ r ∙ sym (sym ih ∙ nothing (is_in int_eq l (labels bs)) (is_in int_eq l tw) (same ∙ r))
    by false q ih = ih ∙ at (is_in int_eq b.label tw)
      where
        at : (t : Bool) → is_in int_eq l (labels (filter (λ b. b.twisted) bs)) ≡ is_in int_eq l (labels (cond t (b ∷ filter (λ b. b.twisted) bs) (filter (λ b. b.twisted) bs)))
        at true = ap (λ e. e || is_in int_eq l (labels (filter (λ b. b.twisted) bs))) (sym q)
        at false = refl

-- a twisted tensor is that of the twisted group
twisted_tensor : (fs : List Factor) (sectors : ℤ → List SectorValue) (all : Bool) (summed tw : List ℤ) (test : End → Bool) (p : Placed) (g : TensorGroup) (a : TensorValue) →
    ((e : End) → is_twisted_leg all summed tw e.inward e.label ≡ test e) → IsTensorOf fs sectors p g → IsTensor a → Twisted p.tensor (twisted_places all summed tw 0 p.tensor.legs p.labels) a →
    IsTensorOf fs sectors (record { tensor = a; labels = p.labels }) (twisted_group (parities_on fs sectors) test g)
twisted_tensor fs sectors all summed tw test p g a same h good w = record {
  node = record {
    group = w.group ∙ h.node.group;
    tensor = good;
    labels = h.node.labels;
    legs = w.legs ∙ h.node.legs;
    odd = ap (parity fs) w.flux ∙ h.node.odd;
    entry = λ xs l. at xs l (entry_range a good xs) (entry_range p.tensor h.node.tensor xs);
  };
  flux = w.flux ∙ h.flux;
}
  where
    sign : (xs : List ℕ) → length xs ≡ length g.node.ends →
        odd_values p.tensor.group p.tensor.legs (twisted_places all summed tw 0 p.tensor.legs p.labels) xs ≡ odd_among (parities_on fs sectors) test g.node.ends xs
    sign xs l =
        (λ i. odd_values (h.node.group i) (h.node.legs i) (twisted_places all summed tw 0 (h.node.legs i) (h.node.labels i)) xs)
        ∙ odd_places fs sectors all summed tw g.node.ends xs l
        ∙ ap (λ (t : End → Bool). odd_among (parities_on fs sectors) t g.node.ends xs) (fun_ext same)

    inside : (xs : List ℕ) → length xs ≡ length g.node.ends → IsValues a.legs xs → entry_of a xs ≡ signed (odd_among (parities_on fs sectors) test g.node.ends xs) (g.node.entry xs)
    inside xs l v = w.entries xs v ∙ ap₂ signed (sign xs l) (h.node.entry xs l)

    at : (xs : List ℕ) → length xs ≡ length g.node.ends → IsValues a.legs xs ⊎ (entry_of a xs ≡ zero_g) → IsValues p.tensor.legs xs ⊎ (entry_of p.tensor xs ≡ zero_g) →
        entry_of a xs ≡ signed (odd_among (parities_on fs sectors) test g.node.ends xs) (g.node.entry xs)
    at xs l (inl v) q = inside xs l v
    at xs l (inr z) (inl v) = inside xs l (subst (λ gs. IsValues gs xs) (sym w.legs) v)
    at xs l (inr z) (inr y) =
        z ∙ sym (ap (signed (odd_among (parities_on fs sectors) test g.node.ends xs)) (sym (h.node.entry xs l) ∙ y) ∙ signed-zero (odd_among (parities_on fs sectors) test g.node.ends xs))

-- one of two tensors, at all its ends of the twisted lines
pub twisted_one : (fs : List Factor) (sectors : ℤ → List SectorValue) (tw : List ℤ) (bonds : List Bond) (p : Placed) (g : TensorGroup) (a : TensorValue) → AreTwistedLines tw sectors bonds → IsTensorOf fs sectors p g → IsTensor a →
    Twisted p.tensor (twisted_places true (labels bonds) tw 0 p.tensor.legs p.labels) a → IsTensorOf fs sectors (record { tensor = a; labels = p.labels }) (twisted_where true (parities_on fs sectors) bonds g)
twisted_one fs sectors tw bonds p g a lines = twisted_tensor fs sectors true (labels bonds) tw (is_twisted bonds) p g a (λ e. marked_here tw sectors bonds lines e.label)

-- the one of a trace, at its inward ends
pub twisted_alone : (fs : List Factor) (sectors : ℤ → List SectorValue) (tw : List ℤ) (bonds : List Bond) (p : Placed) (g : TensorGroup) (a : TensorValue) → AreTwistedLines tw sectors bonds → IsTensorOf fs sectors p g → IsTensor a →
    Twisted p.tensor (twisted_places false (labels bonds) tw 0 p.tensor.legs p.labels) a → IsTensorOf fs sectors (record { tensor = a; labels = p.labels }) (twisted_inward (parities_on fs sectors) bonds g)
twisted_alone fs sectors tw bonds p g a lines =
    twisted_tensor fs sectors false (labels bonds) tw (λ e. e.inward && is_twisted bonds e) p g a (λ e. ap (λ t. e.inward && t) (marked_here tw sectors bonds lines e.label))

-- a tensor that is twisted nowhere, or made from a table and then twisted
pub twisted_nowhere : (t : TensorValue) → Twisted t [] t
twisted_nowhere t = record { group = refl; legs = refl; flux = refl; entries = λ xs v. refl }

pub twisted_same : (all : Bool) (summed tw ls : List ℤ) (t m r : TensorValue) → IsSameTensor t m → Twisted t (twisted_places all summed tw 0 t.legs ls) r → Twisted m (twisted_places all summed tw 0 m.legs ls) r
twisted_same all summed tw ls t m r h w = record {
  group = w.group ∙ h.group;
  legs = w.legs ∙ h.legs;
  flux = w.flux ∙ h.flux;
  entries = λ xs v. w.entries xs v ∙ (λ i. signed (odd_values (h.group i) (h.legs i) (twisted_places all summed tw 0 (h.legs i) ls) xs) (h.entry xs i));
}
