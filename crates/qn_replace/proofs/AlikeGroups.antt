-- Groups of the same tensors, brought together in the same way.
use Rattle.std.proofs.Common.{◌≡◌, ℕ, ℤ, Bool, true, false, ◌||◌, cond, List, [], ◌∷◌, ◌++◌, refl, sym, ◌∙◌, ap, ap₂, subst, map, arith}
use Rattle.std.specs.Prelude.{nat_lt}
use Rattle.std.proofs.lemmas.Bool.{or_parts}
use Rattle.qn_sign.specs.Sign.{xor}
use Rattle.qn_charge.specs.declared.factor.Factor.{Factor}
use Rattle.qn_value.specs.Networks.{Bond, Parities, kept, odd_flux}
use Rattle.qn_value.specs.Fluxes.{sum_flux}
use Rattle.qn_net.specs.Groups.{Listed, TensorGroup, nodes, flux_of, place_member, merged, joined, closed}
use Rattle.qn_replace.specs.Touching.{have_tensor}
use Rattle.qn_replace.specs.Replaced.{AreListedAlike, IsAlike, AreAlike}

-- a test of the tensors of two groups together

pub have-place : (test : ℕ → Bool) (m : Listed) (ns : List Listed) → have_tensor test (place_member m ns) ≡ (test m.number || have_tensor test ns)
have-place test m [] = refl
have-place test m (n ∷ ns) = go (nat_lt m.number n.number) (have-place test m ns)
  where
    turn : (a b c d : Bool) → d ≡ (a || c) → (b || d) ≡ (a || (b || c))
    turn a b c d e = grind arith

    go : (t : Bool) → have_tensor test (place_member m ns) ≡ (test m.number || have_tensor test ns) →
        have_tensor test (cond t (m ∷ n ∷ ns) (n ∷ place_member m ns)) ≡ (test m.number || (test n.number || have_tensor test ns))
    go true ih = refl
    go false ih = turn (test m.number) (test n.number) (have_tensor test ns) (have_tensor test (place_member m ns)) ih

pub have-merged : (test : ℕ → Bool) (ms ns : List Listed) → have_tensor test (merged ms ns) ≡ (have_tensor test ms || have_tensor test ns)
have-merged test [] ns = refl
have-merged test (m ∷ ms) ns =
    have-place test m (merged ms ns)
    ∙ ap (λ b. test m.number || b) (have-merged test ms ns)
    ∙ turn (test m.number) (have_tensor test ms) (have_tensor test ns)
  where
    turn : (a b c : Bool) → (a || (b || c)) ≡ ((a || b) || c)
    turn a b c = grind arith

-- lists of tensors

place-alike : (m m' : Listed) → m.number ≡ m'.number → m.flux ≡ m'.flux → (ns ns' : List Listed) → AreListedAlike ns ns' → AreListedAlike (place_member m ns) (place_member m' ns')
place-alike m m' e f [] [] h = (e, f, tt)
place-alike m m' e f [] (n' ∷ ns') h = absurd h
place-alike m m' e f (n ∷ ns) [] h = absurd h
place-alike m m' e f (n ∷ ns) (n' ∷ ns') h =
    subst (λ b. AreListedAlike (place_member m (n ∷ ns)) (cond b (m' ∷ n' ∷ ns') (n' ∷ place_member m' ns'))) (ap₂ nat_lt e h.0)
    (go (nat_lt m.number n.number) (place-alike m m' e f ns ns' h.2))
  where
    go : (t : Bool) → AreListedAlike (place_member m ns) (place_member m' ns') → AreListedAlike (cond t (m ∷ n ∷ ns) (n ∷ place_member m ns)) (cond t (m' ∷ n' ∷ ns') (n' ∷ place_member m' ns'))
    go true ih = (e, f, h)
    go false ih = (h.0, h.1, ih)

merged-alike : (ms ms' ns ns' : List Listed) → AreListedAlike ms ms' → AreListedAlike ns ns' → AreListedAlike (merged ms ns) (merged ms' ns')
merged-alike [] [] ns ns' h k = k
merged-alike [] (m' ∷ ms') ns ns' h k = absurd h
merged-alike (m ∷ ms) [] ns ns' h k = absurd h
merged-alike (m ∷ ms) (m' ∷ ms') ns ns' h k = place-alike m m' h.0 h.1 (merged ms ns) (merged ms' ns') (merged-alike ms ms' ns ns' h.2 k)

fluxes : (ms ms' : List Listed) → AreListedAlike ms ms' → map (λ (m : Listed). m.flux) ms ≡ map (λ (m : Listed). m.flux) ms'
fluxes [] [] h = refl
fluxes [] (m' ∷ ms') h = absurd h
fluxes (m ∷ ms) [] h = absurd h
fluxes (m ∷ ms) (m' ∷ ms') h = ap₂ (λ (q : List ℤ) (qs : List (List ℤ)). q ∷ qs) h.1 (fluxes ms ms' h.2)

pub flux-alike : (fs : List Factor) (test : ℕ → Bool) (g h : TensorGroup) → IsAlike test g h → flux_of fs g ≡ flux_of fs h
flux-alike fs test g h k = ap (sum_flux fs) (fluxes g.members h.members k.members)

-- groups

module _ (test : ℕ → Bool) where
  pub alike-append : (gs gs' hs hs' : List TensorGroup) → AreAlike test gs gs' → AreAlike test hs hs' → AreAlike test (gs ++ hs) (gs' ++ hs')
  alike-append [] [] hs hs' h k = k
  alike-append [] (g' ∷ gs') hs hs' h k = absurd h
  alike-append (g ∷ gs) [] hs hs' h k = absurd h
  alike-append (g ∷ gs) (g' ∷ gs') hs hs' h k = (h.0, alike-append gs gs' hs hs' h.1 k)

  odd-alike : (gs gs' : List TensorGroup) → AreAlike test gs gs' → odd_flux (nodes gs) ≡ odd_flux (nodes gs')
  odd-alike [] [] h = refl
  odd-alike [] (g' ∷ gs') h = absurd h
  odd-alike (g ∷ gs) [] h = absurd h
  odd-alike (g ∷ gs) (g' ∷ gs') h = ap₂ xor h.0.odd (odd-alike gs gs' h.1)

  pub joined-alike : (par : Parities) (b b' : Bool) (g g' h h' : TensorGroup) (bonds bonds' : List Bond) → b ≡ b' → IsAlike test g g' → IsAlike test h h' → bonds ≡ bonds' →
      IsAlike test (joined par b g h bonds) (joined par b' g' h' bonds')
  joined-alike par b b' g g' h h' bonds bonds' eb kg kh e = record {
    number = kg.number;
    ends = λ i. kept (record { ends = kg.ends i; entry = g.node.entry; odd = g.node.odd } ∷ record { ends = kh.ends i; entry = h.node.entry; odd = h.node.odd } ∷ []) (e i);
    odd = ap₂ (λ p q. xor p (xor q false)) kg.odd kh.odd;
    members = merged-alike g.members g'.members h.members h'.members kg.members kh.members;
    summed = λ i. kh.summed i ++ (kg.summed i ++ e i);
    role = refl;
    same = λ none.
        let parts = or_parts (have_tensor test g.members) (have_tensor test h.members) (sym (have-merged test g.members h.members) ∙ none) in
        λ i. joined par (eb i) (kg.same parts.0 i) (kh.same parts.1 i) (e i);
  }

  pub closed-alike : (par : Parities) (g g' : TensorGroup) (bonds bonds' : List Bond) → IsAlike test g g' → bonds ≡ bonds' → IsAlike test (closed par g bonds) (closed par g' bonds')
  closed-alike par g g' bonds bonds' k e = record {
    number = k.number;
    ends = λ i. kept (record { ends = k.ends i; entry = g.node.entry; odd = g.node.odd } ∷ []) (e i);
    odd = ap (λ p. xor p false) k.odd;
    members = k.members;
    summed = λ i. k.summed i ++ e i;
    role = refl;
    same = λ none i. closed par (k.same none i) (e i);
  }

  -- what stands between two groups
  pub between-alike : (gs gs' : List TensorGroup) → AreAlike test gs gs' → odd_flux (nodes gs) ≡ odd_flux (nodes gs')
  between-alike = odd-alike
