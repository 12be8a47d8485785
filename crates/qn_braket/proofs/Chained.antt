-- Chains are networks.
use Rattle.std.proofs.Common.{◌≡◌, ℕ, zero, suc, ◌==◌, ℤ, pos, negsuc, Bool, true, false, not, ◌&&◌, ◌||◌, cond, List, [], ◌∷◌, ◌++◌, map, refl, sym, ◌∙◌, ap, subst, append_assoc, arith, int_eq}
use mathlib.Core.Path.{fun_ext}
use Rattle.std.proofs.lemmas.Bool.{or_parts, or_from}
use Rattle.std.proofs.lemmas.Bool.Decides.{nat_tests}
use Rattle.std.specs.List.{flat_map}
use Rattle.qn_sign.specs.Sign.{is_in, IsDistinct, Perm}
use Rattle.qn_sign.specs.Sign.Perm.{none, keep, swap, then_by}
use Rattle.qn_gauss.specs.Gaussian.{Gaussian}
use Rattle.qn_value.specs.Networks.{End, Bond, Assignment, assign, sum_below, sums, same_bool, same_end, word, pairs_of, goal, values, labels}
use Rattle.qn_sign.proofs.Order.{distinct-perm, distinct_second}
use Rattle.qn_sign.proofs.Parity.{perm-refl, perm_blocks, perm_under, perm_before}
use Rattle.qn_value.proofs.Sums.{label_test, IsSteady}
use Rattle.qn_value.proofs.NetLaws.{perm_turn}
use Rattle.qn_braket.specs.Brakets.{outs, ins_back}
use Rattle.qn_braket.specs.Pieces.{Piece, chain, chain_links, site_lines, sum_states}
use Rattle.qn_braket.proofs.Conjugate.{conj_ends_cons}

-- the numbers j, j + 1, .. , m of them
abbrev pub numbers : ℕ → ℕ → List ℕ
numbers j zero = []
numbers j (suc m) = j ∷ numbers (suc j) m

-- a part of the summand that the sum does not change may be fixed
pub sums-keep : {X : Type 0} (bs : List Bond) (h : Assignment → X) → IsSteady h bs → (g : X → Assignment → Gaussian) (a : Assignment) →
    sums bs (λ c. g (h c) c) a ≡ sums bs (λ c. g (h a) c) a
sums-keep [] h st g a = refl
sums-keep (b ∷ bs) h st g a =
    ap (sum_below b.dim) (fun_ext (λ v. sums-keep bs h st.1 g (assign a b.label v) ∙ ap (λ x. sums bs (λ c. g x c) (assign a b.label v)) (st.0 a v)))

-- labels that differ give ends that differ

pub label_in : (e : End) (es : List End) → is_in same_end e es ≡ true → is_in int_eq e.label (map (λ (x : End). x.label) es) ≡ true
label_in e [] h = h
label_in e (x ∷ es) h = step (int_eq e.label x.label) (same_bool e.inward x.inward) (is_in same_end e es) _ h (label_in e es)
  where
    step : (p q r s : Bool) → ((p && q) || r) ≡ true → (r ≡ true → s ≡ true) → (p || s) ≡ true
    step true q r s h k = refl
    step false q r s h k = k h

-- the labels of the two ends of each bond are those of the bonds
pair_labels : (l : ℤ) (bs : List Bond) (es : List End) →
    is_in int_eq l (map (λ (x : End). x.label) (pairs_of bs ++ es)) ≡ is_in int_eq l (labels bs ++ map (λ (x : End). x.label) es)
pair_labels l [] es = refl
pair_labels l (b ∷ bs) es = step (int_eq l b.label) _ _ (pair_labels l bs es)
  where
    step : (p r s : Bool) → r ≡ s → (p || (p || r)) ≡ (p || s)
    step p r s e = grind arith

not_in : (e : End) (bs : List Bond) (es : List End) → is_in int_eq e.label (labels bs ++ map (λ (x : End). x.label) es) ≡ false → is_in same_end e (pairs_of bs ++ es) ≡ false
not_in e bs es h = go (is_in same_end e (pairs_of bs ++ es)) refl
  where
    go : (b : Bool) → is_in same_end e (pairs_of bs ++ es) ≡ b → b ≡ false
    go false f = refl
    go true f = sym (label_in e (pairs_of bs ++ es) f) ∙ pair_labels e.label bs es ∙ h

pub distinct_goal : (bs : List Bond) (es : List End) → IsDistinct int_eq (labels bs ++ map (λ (x : End). x.label) es) → IsDistinct same_end (goal bs es)
distinct_goal [] es d = by_labels es d
  where
    by_labels : (es : List End) → IsDistinct int_eq (map (λ (x : End). x.label) es) → IsDistinct same_end es
    by_labels [] d = tt
    by_labels (e ∷ es) d = (not_in e [] es d.0, by_labels es d.1)
distinct_goal (b ∷ bs) es d = (
  or_from (same_end (record { label = b.label; inward = true }) (record { label = b.label; inward = false })) (is_in same_end (record { label = b.label; inward = true }) (pairs_of bs ++ es))
      (other (int_eq b.label b.label)) (not_in (record { label = b.label; inward = true }) bs es d.0),
  (not_in (record { label = b.label; inward = false }) bs es d.0, distinct_goal bs es d.1),
)
  where
    other : (a : Bool) → (a && false) ≡ false
    other a = grind arith

-- the word of a chain

pub perm_both : {A : Type 0} {a b c d : List A} → Perm a b → Perm c d → Perm (a ++ c) (b ++ d)
perm_both {a = a} {d = d} p q = then_by (perm_under a q) (perm_before d p)

module _ (own : ℕ → List End) (link : ℕ → ℤ) (c : ℕ → Piece) where
  couple : (j : ℕ) (b : Bool) → Perm {E = End} (record { label = link j; inward = b } ∷ record { label = link j; inward = not b } ∷ [])
      (record { label = link j; inward = true } ∷ record { label = link j; inward = false } ∷ [])
  couple j true = keep (keep none)
  couple j false = swap

  pub chain_perm : (m j : ℕ) (left : List End) →
      Perm (word (chain own link c left j m)) (left ++ (pairs_of (chain_links link c j m) ++ flat_map own (numbers j (suc m))))
  chain_perm zero j left = subst (λ w. Perm w (left ++ (own j ++ []))) (sym (append_assoc left (own j) [])) (perm-refl (left ++ (own j ++ [])))
  chain_perm (suc m) j left =
      let right : End = record { label = link j; inward = (c j).right_in } in
      let next : End = record { label = link j; inward = not (c j).right_in } in
      let later : List End = word (chain own link c (next ∷ []) (suc j) m) in
      let p : List End = pairs_of (chain_links link c (suc j) m) in
      let o : List End = flat_map own (numbers (suc j) (suc m)) in
      subst (λ w. Perm w (left ++ ((record { label = link j; inward = true } ∷ record { label = link j; inward = false } ∷ p) ++ (own j ++ o))))
      (sym (append_assoc left (own j ++ right ∷ []) later ∙ ap (λ w. left ++ w) (append_assoc (own j) (right ∷ []) later)))
      (perm_under left
      (then_by (perm_under (own j) (keep (chain_perm m (suc j) (next ∷ []))))
      (then_by (perm_blocks (own j) (right ∷ next ∷ []) (p ++ o))
      (perm_both (couple j (c j).right_in) (perm_blocks (own j) p o)))))

pub state_flat : (site : ℕ → ℤ) (dim : ℕ → ℕ) (m j : ℕ) → flat_map (λ k. record { label = site k; inward = false } ∷ []) (numbers j m) ≡ outs (site_lines site dim j m)
state_flat site dim zero j = refl
state_flat site dim (suc m) j = ap (λ es. record { label = site j; inward = false } ∷ es) (state_flat site dim m (suc j))

pub operator_flat : (upper lower : ℕ → ℤ) (dim : ℕ → ℕ) (m j : ℕ) →
    Perm (flat_map (λ k. record { label = upper k; inward = false } ∷ record { label = lower k; inward = true } ∷ []) (numbers j m))
    (outs (site_lines upper dim j m) ++ ins_back (site_lines lower dim j m))
operator_flat upper lower dim zero j = none
operator_flat upper lower dim (suc m) j =
    keep (then_by (keep (operator_flat upper lower dim m (suc j)))
    (subst (Perm (record { label = lower j; inward = true } ∷ (outs (site_lines upper dim (suc j) m) ++ ins_back (site_lines lower dim (suc j) m))))
    (append_assoc (outs (site_lines upper dim (suc j) m)) (ins_back (site_lines lower dim (suc j) m)) (record { label = lower j; inward = true } ∷ [])
    ∙ ap (λ es. outs (site_lines upper dim (suc j) m) ++ es) (sym (conj_ends_cons (record { label = lower j; inward = false }) (outs (site_lines lower dim (suc j) m)))))
    (perm_turn (record { label = lower j; inward = true } ∷ []) (outs (site_lines upper dim (suc j) m) ++ ins_back (site_lines lower dim (suc j) m)))))

-- x goes past a stretch

pub through : {A : Type 0} (x : A) (zs : List A) {xs ys : List A} → Perm (x ∷ xs) ys → Perm (x ∷ (zs ++ xs)) (zs ++ ys)
through x zs {xs = xs} h = then_by (perm_blocks (x ∷ []) zs xs) (perm_under zs h)

-- a stretch may be left out

pub drop_block : (a b c : List ℤ) → IsDistinct int_eq (a ++ (b ++ c)) → IsDistinct int_eq (a ++ c)
drop_block a b c d = distinct_second int_eq b (a ++ c) (distinct-perm int_eq label_test (perm_blocks a b c) d)

-- sums over states

pub labels_outs : (bs : List Bond) → map (λ (x : End). x.label) (outs bs) ≡ labels bs
labels_outs [] = refl
labels_outs (b ∷ bs) = ap (λ ls. b.label ∷ ls) (labels_outs bs)

-- the sum over the lines of the sites is the sum over states
pub sums_states : (site : ℕ → ℤ) (dim : ℕ → ℕ) (m j : ℕ) → IsDistinct int_eq (labels (site_lines site dim j m)) → (f : List ℕ → Gaussian) (a : Assignment) →
    sums (site_lines site dim j m) (λ s. f (values (outs (site_lines site dim j m)) s)) a ≡ sum_states dim j m f
sums_states site dim zero j d f a = refl
sums_states site dim (suc m) j d f a =
    ap (sum_below (dim j)) (fun_ext (λ v.
    sums-keep (site_lines site dim (suc j) m) (λ s. s (leg j)) (steady (site_lines site dim (suc j) m) d.0)
    (λ x s. f (x ∷ values (outs (site_lines site dim (suc j) m)) s)) (assign a (site j) v)
    ∙ ap (λ x. sums (site_lines site dim (suc j) m) (λ s. f (x ∷ values (outs (site_lines site dim (suc j) m)) s)) (assign a (site j) v))
    (ap (λ b. cond b v (a (leg j))) (label_test.itself (site j)))
    ∙ sums_states site dim m (suc j) d.1 (λ s. f (v ∷ s)) (assign a (site j) v)))
  where
    leg : ℕ → End
    leg j = record { label = site j; inward = false }

    steady : (bs : List Bond) → is_in int_eq (site j) (labels bs) ≡ false → IsSteady (λ s. s (leg j)) bs
    steady [] h = tt
    steady (b ∷ bs) h =
        let p = or_parts (int_eq (site j) b.label) (is_in int_eq (site j) (labels bs)) h in
        ((λ s v. ap (λ q. cond q v (s (leg j))) p.0), steady bs p.1)

-- tests of labels

pub pos_test : (x y : ℕ) → int_eq (pos x) (pos y) ≡ (x == y)
pos_test x y = grind (arith, nat_tests)

pub neg_test : (x y : ℕ) → int_eq (negsuc x) (negsuc y) ≡ (x == y)
neg_test x y = grind (arith, nat_tests)
