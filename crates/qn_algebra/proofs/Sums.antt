-- Added and turned chains.
use Rattle.std.proofs.Common.{◌≡◌, ◌<◌, ℕ, zero, suc, ◌+◌, ◌-◌, Bool, List, [], ◌∷◌, ◌++◌, length, map, refl, sym, ◌∙◌, ap, ap₂, subst, append-nil, arith}
use Rattle.qn_gauss.specs.Gaussian.{add_g, conj_g, signed}
use Rattle.qn_gauss.proofs.Signs.{signed-add}
use Rattle.qn_charge.specs.declared.factor.Factor.{Factor}
use Rattle.qn_charge.specs.Charges.{neg_charge, zero_charge}
use Rattle.qn_charge.specs.Laws.{neg_of_zero}
use Rattle.qn_index.specs.declared.leg.Dir.TheVariants.{Out}
use Rattle.qn_index.specs.Legs.{LegValue, SectorValue, total}
use Rattle.qn_index.specs.Places.{IsValues}
use Rattle.qn_block.specs.Blocked.{BlockedValue}
use Rattle.qn_block.proofs.Lookup.{values_length}
use Rattle.qn_braket.specs.Chains.{leg_at, tensor_at, operator_legs, IsOperatorChain, element}
use Rattle.qn_braket.proofs.ListValues.{last_site}
use Rattle.qn_links.specs.LinkSums.{EntryChain, IsLeft, AreOn, IsBelow, AreOwn, link_sum, site_values, crossing}
use Rattle.qn_links.specs.Joins.{singles}
use Rattle.qn_links.specs.Additions.{IsAddition}
use Rattle.qn_links.specs.Turns.{IsTurn, twice}
use Rattle.qn_links.proofs.Adding.{added}
use Rattle.qn_links.proofs.Turning.{turned, pairs_on}
use Rattle.qn_algebra.specs.Standard.{IsStandard, site_dim, site_odd, link_sectors, entries_of}
use Rattle.qn_algebra.specs.Links.{left_legs, right_legs, HaveLegs, second_legs}
use Rattle.qn_algebra.specs.Added.{added_link, SumLaw}
use Rattle.qn_algebra.specs.Turned.{turned_link, AdjointLaw}
use Rattle.qn_algebra.proofs.Shapes.{left_values, right_value, no_right, first_link, made_chain, made_left, made_right}
use Rattle.qn_algebra.proofs.StandardSums.{operator_sum, operator_even, sites_on}

last_is : (n m : ℕ) → n ≡ suc m → m ≡ n - 1
last_is n m e = omega (arith, e)

-- an operator that is made with these legs

module _ (fs : List Factor) (sites : List LegValue) (link : ℕ → LegValue) (ats cts : List BlockedValue) (m : ℕ) (enough : length sites ≡ suc m)
    (a_chain : IsOperatorChain sites ats) (out : (j : ℕ) → (link j).arrow ≡ Out) (shape : HaveLegs second_legs sites link cts) where
  abbrev c : EntryChain
  c = entries_of fs cts

  pub chain_is : IsOperatorChain sites cts
  chain_is = made_chain second_legs sites link cts a_chain.some a_chain.outward out shape

  pub standard_is : ((j : ℕ) → suc j < length cts → (tensor_at cts j).flux ≡ zero_charge fs) → IsStandard fs cts
  standard_is flux = record {
    left = made_left second_legs sites link cts a_chain.some a_chain.outward out shape;
    right = made_right second_legs sites link cts a_chain.some a_chain.outward out shape;
    flux = flux;
  }

  c_long : length cts ≡ suc m
  c_long = shape.count ∙ enough

  pub dim_is : (j : ℕ) → j < m → c.dim (suc j) ≡ total (link (suc j)).sectors
  dim_is j h =
      ap (λ (l : LegValue). total l.sectors)
      (first_link second_legs sites link cts a_chain.some a_chain.outward out shape j (subst (λ n. suc j < n) (sym c_long) (less j m h)))
    where
      less : (j m : ℕ) → j < m → suc j < suc m
      less j m h = omega (arith, h)

  pub in_sites : (j : ℕ) → j < suc m → j < length sites
  in_sites j h = subst (λ n. j < n) (sym enough) h

  -- the dimensions may be those of the links, or others that are equal
  pub left_is : (dim : ℕ → ℕ) → ((j : ℕ) → j < m → dim (suc j) ≡ total (link (suc j)).sectors) → (j : ℕ) (left : List ℕ) → j < suc m → IsLeft dim j left → IsValues (left_legs link j) left
  left_is dim same j left h l = left_values link j left (go j left h l)
    where
      before : (j m : ℕ) → suc j < suc m → j < m
      before j m h = omega (arith, h)

      go : (j : ℕ) (left : List ℕ) → j < suc m → IsLeft dim j left → IsLeft (λ i. total (link i).sectors) j left
      go zero [] h l = tt
      go zero (v ∷ vs) h l = absurd l
      go (suc j) [] h l = absurd l
      go (suc j) (v ∷ []) h l = subst (λ n. v < n) (same j (before j m h)) l
      go (suc j) (v ∷ u ∷ vs) h l = absurd l

  pub right_is : (j v : ℕ) → j < m → v < total (link (suc j)).sectors → IsValues (right_legs link (length sites) j) (v ∷ [])
  right_is j v h b = subst (λ n. IsValues (right_legs link n j) (v ∷ [])) (sym enough) (right_value link (suc m) j v (less j m h) b)
    where
      less : (j m : ℕ) → j < m → suc j < suc m
      less j m h = omega (arith, h)

  pub right_none : (j : ℕ) → j ≡ m → IsValues (right_legs link (length sites) j) []
  right_none j e = subst (λ n. IsValues (right_legs link n j) []) (sym enough) (no_right link (suc m) j (ap suc e))

  pub value_is : IsStandard fs cts → (u s : List ℕ) → IsValues sites u → IsValues sites s →
      element fs cts u s ≡ signed (crossing (site_odd fs sites) 0 u (singles s)) (link_sum c.entry c.dim 0 m [] (site_values u (singles s)))
  value_is standard u s hu hs =
      operator_sum fs sites cts chain_is standard u s (values_length sites u hu) (values_length sites s hs)
      ∙ ap (λ n. signed (crossing (site_odd fs sites) 0 u (singles s)) (link_sum c.entry c.dim 0 n [] (site_values u (singles s)))) (sym (last_is (length cts) m c_long))

-- values of the two legs of a site
pair_is : (sites : List LegValue) (j : ℕ) (w : List ℕ) → AreOwn (twice (site_dim sites)) j w → IsValues (operator_legs (leg_at sites j)) w
pair_is sites j [] h = absurd h
pair_is sites j (x ∷ []) h = absurd h.1
pair_is sites j (x ∷ y ∷ []) h = (h.0, (h.1.0, refl))
pair_is sites j (x ∷ y ∷ z ∷ zs) h = absurd h.1.1

pub total-both : (ps qs : List SectorValue) → total (ps ++ qs) ≡ total ps + total qs
total-both [] qs = none (total qs)
  where
    none : (n : ℕ) → n ≡ 0 + n
    none n = omega arith
total-both (p ∷ ps) qs = ap (λ n. p.dim + n) (total-both ps qs) ∙ assoc p.dim (total ps) (total qs)
  where
    assoc : (a b c : ℕ) → a + (b + c) ≡ a + b + c
    assoc a b c = omega arith

pub sums : SumLaw
sums fs sites ats bts cts a_chain a_standard b_chain b_standard is = (
  chain,
  standard,
  λ u s hu hs.
      value_is fs sites link ats cts m enough a_chain out is.shape standard u s hu hs
      ∙ ap (signed (sign u s))
      (added (twice (site_dim sites)) (entries_of fs ats) (entries_of fs bts) (entries_of fs cts) m is_addition (site_values u (singles s)) (pairs_on (site_dim sites) (suc m) 0 s u (on s hs) (on u hu)))
      ∙ signed-add (sign u s) _ _
      ∙ sym (ap₂ add_g (given ats a_chain a_standard u s hu hs) (given bts b_chain b_standard u s hu hs)),
)
  where
    sign : List ℕ → List ℕ → Bool
    sign u s = crossing (site_odd fs sites) 0 u (singles s)

    link : ℕ → LegValue
    link = added_link ats bts

    m : ℕ
    m = length sites - 1

    enough : length sites ≡ suc m
    enough = last_site sites a_chain.some

    out : (j : ℕ) → (added_link ats bts j).arrow ≡ Out
    out j = refl

    chain : IsOperatorChain sites cts
    chain = chain_is fs sites link ats cts m enough a_chain out is.shape

    standard : IsStandard fs cts
    standard = standard_is fs sites link ats cts m enough a_chain out is.shape
        (λ j h. is.flux j (less j (length cts) (length sites) h is.shape.count) ∙ a_standard.flux j (subst (λ n. suc j < n) (is.shape.count ∙ sym a_chain.count) h))
      where
        less : (j n k : ℕ) → suc j < n → n ≡ k → j < k
        less j n k h e = omega (arith, h, e)

    on : (xs : List ℕ) → IsValues sites xs → AreOn (IsBelow (site_dim sites)) 0 (suc m) xs
    on xs h = subst (λ n. AreOn (IsBelow (site_dim sites)) 0 n xs) enough (sites_on sites xs h)

    given : (ts : List BlockedValue) → IsOperatorChain sites ts → IsStandard fs ts → (u s : List ℕ) → IsValues sites u → IsValues sites s →
        element fs ts u s ≡ signed (sign u s) (link_sum (entries_of fs ts).entry (entries_of fs ts).dim 0 m [] (site_values u (singles s)))
    given ts c st u s hu hs =
        operator_sum fs sites ts c st u s (values_length sites u hu) (values_length sites s hs)
        ∙ ap (λ n. signed (sign u s) (link_sum (entries_of fs ts).entry (entries_of fs ts).dim 0 n [] (site_values u (singles s)))) (sym (last_is (length ts) m (c.count ∙ enough)))

    less' : (j m : ℕ) → j < m → j < suc m
    less' j m h = omega (arith, h)

    final : (j m : ℕ) → j ≡ m → j < suc m
    final j m h = omega (arith, h)

    dims : (j : ℕ) → j < m → (entries_of fs cts).dim (suc j) ≡ total (added_link ats bts (suc j)).sectors
    dims = dim_is fs sites link ats cts m enough a_chain out is.shape

    is_addition : IsAddition (twice (site_dim sites)) (entries_of fs ats) (entries_of fs bts) (entries_of fs cts) m
    is_addition = record {
      links = λ j h. dims j h ∙ total-both (link_sectors ats (suc j)) (link_sectors bts (suc j));
      inner = λ j v left w h l hw hv. is.entries j left w (v ∷ []) (in_sites fs sites link ats cts m enough a_chain out is.shape j (less' j m h))
          (left_is fs sites link ats cts m enough a_chain out is.shape (entries_of fs cts).dim dims j left (less' j m h) l) (pair_is sites j w hw)
          (right_is fs sites link ats cts m enough a_chain out is.shape j v h (subst (λ n. v < n) (dims j h) hv));
      last = λ j left w e l hw. ap (λ vs. (entries_of fs cts).entry j (left ++ vs)) (sym (append-nil w))
          ∙ is.entries j left w [] (in_sites fs sites link ats cts m enough a_chain out is.shape j (final j m e))
          (left_is fs sites link ats cts m enough a_chain out is.shape (entries_of fs cts).dim dims j left (final j m e) l) (pair_is sites j w hw)
          (right_none fs sites link ats cts m enough a_chain out is.shape j e);
    }

pub total_turned : (fs : List Factor) (ps : List SectorValue) → total (map (λ (s : SectorValue). record { charge = neg_charge fs s.charge; dim = s.dim }) ps) ≡ total ps
total_turned fs [] = refl
total_turned fs (p ∷ ps) = ap (λ n. p.dim + n) (total_turned fs ps)

pub adjoints : AdjointLaw
adjoints fs sites ats cts g over a_chain a_standard is = (
  chain,
  standard,
  λ u s hu hs.
      value_is fs sites link ats cts m enough a_chain out is.shape standard u s hu hs
      ∙ turned (site_dim sites) (site_odd fs sites) (entries_of fs ats) (entries_of fs cts) m
      (operator_even fs sites ats m g a_chain (a_chain.count ∙ enough) over a_standard) is_turn u s (on u hu) (on s hs)
      ∙ sym (ap conj_g
      (operator_sum fs sites ats a_chain a_standard s u (values_length sites s hs) (values_length sites u hu)
      ∙ ap (λ n. signed (crossing (site_odd fs sites) 0 s (singles u)) (link_sum (entries_of fs ats).entry (entries_of fs ats).dim 0 n [] (site_values s (singles u))))
      (sym (last_is (length ats) m (a_chain.count ∙ enough))))),
)
  where
    link : ℕ → LegValue
    link = turned_link fs ats

    m : ℕ
    m = length sites - 1

    enough : length sites ≡ suc m
    enough = last_site sites a_chain.some

    out : (j : ℕ) → (turned_link fs ats j).arrow ≡ Out
    out j = refl

    chain : IsOperatorChain sites cts
    chain = chain_is fs sites link ats cts m enough a_chain out is.shape

    standard : IsStandard fs cts
    standard = standard_is fs sites link ats cts m enough a_chain out is.shape
        (λ j h. is.flux j (less j (length cts) (length sites) h is.shape.count)
        ∙ ap (neg_charge fs) (a_standard.flux j (subst (λ n. suc j < n) (is.shape.count ∙ sym a_chain.count) h)) ∙ neg_of_zero fs g)
      where
        less : (j n k : ℕ) → suc j < n → n ≡ k → j < k
        less j n k h e = omega (arith, h, e)

    on : (xs : List ℕ) → IsValues sites xs → AreOn (IsBelow (site_dim sites)) 0 (suc m) xs
    on xs h = subst (λ n. AreOn (IsBelow (site_dim sites)) 0 n xs) enough (sites_on sites xs h)

    less' : (j m : ℕ) → j < m → j < suc m
    less' j m h = omega (arith, h)

    final : (j m : ℕ) → j ≡ m → j < suc m
    final j m h = omega (arith, h)

    dims : (j : ℕ) → j < m → (entries_of fs ats).dim (suc j) ≡ total (turned_link fs ats (suc j)).sectors
    dims j h = sym (total_turned fs (link_sectors ats (suc j)))

    is_turn : IsTurn (site_dim sites) (entries_of fs ats) (entries_of fs cts) m
    is_turn = record {
      links = λ j h. dim_is fs sites link ats cts m enough a_chain out is.shape j h ∙ total_turned fs (link_sectors ats (suc j));
      inner = λ j x y v left h l hx hy hv. is.entries j x y left (v ∷ []) (in_sites fs sites link ats cts m enough a_chain out is.shape j (less' j m h))
          (left_is fs sites link ats cts m enough a_chain out is.shape (entries_of fs ats).dim dims j left (less' j m h) l) (hx, (hy, refl))
          (right_is fs sites link ats cts m enough a_chain out is.shape j v h (subst (λ n. v < n) (dims j h) hv));
      last = λ j x y left e l hx hy. is.entries j x y left [] (in_sites fs sites link ats cts m enough a_chain out is.shape j (final j m e))
          (left_is fs sites link ats cts m enough a_chain out is.shape (entries_of fs ats).dim dims j left (final j m e) l) (hx, (hy, refl))
          (right_none fs sites link ats cts m enough a_chain out is.shape j e);
    }
