-- The legs, the labels and the entries of a pair step, by the legs of its two tensors.
use Rattle.std.proofs.Common.{◌≡◌, ◌<◌, ◌≤◌, ℕ, zero, suc, ◌+◌, ◌==◌, ℤ, Bool, true, false, ◌&&◌, not, cond, List, [], ◌∷◌, ◌++◌, refl, sym, ◌∙◌, ap, ap₂, subst, map, length, drop, get_or, append-nil, ◌⊎◌, int_eq, arith}
use Rattle.std.specs.List.{All}
use Rattle.std.proofs.lemmas.List.{length-map}
use Rattle.std.proofs.lemmas.List.Elements.{All-nil, All-cons}
use Rattle.qn_sign.specs.Sign.{is_in, exchange_sign, IsDistinct}
use Rattle.qn_sign.specs.Positions.{positions, is_odd_at}
use Rattle.qn_sign.proofs.Order.{distinct-perm, distinct_first, distinct_second}
use Rattle.qn_gauss.specs.Gaussian.{mul_g, signed}
use Rattle.qn_index.specs.Legs.{SectorValue, LegValue}
use Rattle.qn_index.specs.Places.{IsValues}
use Rattle.qn_value.specs.Networks.{End, Node, Bond, Assignment, same_end, in_end, out_end, word, pairs_of, labels, kept, values, at_values, odd_flux, sign, IsNetwork}
use Rattle.qn_value.specs.Tensors.{entry_of}
use Rattle.qn_value.specs.Labels.{Placed}
use Rattle.qn_value.specs.Local.{picked, no_leg, parities as leg_parities}
use Rattle.qn_value.specs.Blocks.{legs_on}
use Rattle.qn_value.proofs.NetLaws.{end_test}
use Rattle.qn_value.proofs.BlocksLemmas.{length-legs}
use Rattle.qn_block.specs.Combiners.{CombinerValue, IsCombiner}
use Rattle.qn_net.specs.Groups.{nodes}
use Rattle.qn_net.specs.Steps.{IsStepAt}
use Rattle.qn_net.specs.Tables.{no_end}
use Rattle.qn_net.specs.Carried.{IsSoundState}
use Rattle.qn_net.specs.Operations.{parities_on, IsNodeOf, AreLines}
use Rattle.qn_net.specs.FuseSteps.{IsFusedAt}
use Rattle.qn_net.proofs.PassingLemmas.{local_pair}
use Rattle.qn_net.proofs.Held.{legs-append, labels-append, ends_on}
use Rattle.qn_net.proofs.StepTensors.{lines_perm, lines_first}
use Rattle.qn_net.proofs.FuseEntries.{places_sign}
use Rattle.qn_net.proofs.FuseLaws.{fuse_entry_law}
use Rattle.qn_engine.specs.Fusing.{PairAt, step_of, made_by, ends_of, line_ends, ends_left, places_left, IsOrderOf}
use Rattle.qn_engine.proofs.FusedLines.{labels_on}
use Rattle.qn_engine.proofs.FusedSteps.{all_meet, left_values}

-- a list from a place on
from_place : {A : Type 0} (default : A) (n : ℕ) (xs : List A) (y : A) (ys : List A) → drop n xs ≡ y ∷ ys → (get_or xs n default ≡ y) × (drop (n + 1) xs ≡ ys)
from_place default zero [] y ys e = absurd (cc e)
from_place default (suc n) [] y ys e = absurd (cc e)
from_place default zero (x ∷ xs) y ys e = (cc, cc)
from_place default (suc n) (x ∷ xs) y ys e = let r = from_place default n xs y ys e in (r.0, ap (λ k. drop k (x ∷ xs)) next ∙ r.1)
  where
    next : suc n + 1 ≡ suc (n + 1)
    next = omega arith

-- what stands at the places that are left is what stands at the ends that are left
pub left_picked : {A : Type 0} (default : A) (g : End → A) (summed : List ℤ) (xs : List A) (es : List End) (n : ℕ) → drop n xs ≡ map g es →
    picked default xs (places_left summed n (labels_on es)) ≡ map g (ends_left summed es)
left_picked default g summed xs [] n h = refl
left_picked default g summed xs (e ∷ es) n h =
    let r = from_place default n xs (g e) (map g es) h in
    go (is_in int_eq e.label summed) r.0 (left_picked default g summed xs es (n + 1) r.1)
  where
    go : (b : Bool) → get_or xs n default ≡ g e → picked default xs (places_left summed (n + 1) (labels_on es)) ≡ map g (ends_left summed es) →
        picked default xs (cond b (places_left summed (n + 1) (labels_on es)) (n ∷ places_left summed (n + 1) (labels_on es))) ≡ map g (cond (not b) (e ∷ ends_left summed es) (ends_left summed es))
    go true here ih = ih
    go false here ih = ap₂ ◌∷◌ here ih

same_map : (es : List End) → map (λ (e : End). e) es ≡ es
same_map [] = refl
same_map (e ∷ es) = ap (λ fs. e ∷ fs) (same_map es)

pub left_ends : (summed : List ℤ) (es : List End) → picked no_end es (places_left summed 0 (labels_on es)) ≡ ends_left summed es
left_ends summed es = left_picked no_end (λ e. e) summed es es 0 (sym (same_map es)) ∙ same_map (ends_left summed es)

pub left_legs : (sectors : ℤ → List SectorValue) (summed : List ℤ) (es : List End) → picked no_leg (legs_on sectors es) (places_left summed 0 (labels_on es)) ≡ legs_on sectors (ends_left summed es)
left_legs sectors summed es = left_picked no_leg _ summed (legs_on sectors es) es 0 refl

-- the places that are left
pub left_within : (summed : List ℤ) (ls : List ℤ) (n m : ℕ) → n + length ls ≤ m → All (λ k. k < m) (places_left summed n ls)
left_within summed [] n m h = All-nil (λ k. k < m)
left_within summed (l ∷ ls) n m h = go (is_in int_eq l summed) (omega (arith, h)) (left_within summed ls (n + 1) m (omega (arith, h)))
  where
    go : (b : Bool) → n < m → All (λ k. k < m) (places_left summed (n + 1) ls) → All (λ k. k < m) (cond b (places_left summed (n + 1) ls) (n ∷ places_left summed (n + 1) ls))
    go true lt ih = ih
    go false lt ih = All-cons (λ k. k < m) n (places_left summed (n + 1) ls) lt ih

-- the two ends of each bond
pub bond_ends : (bs : List Bond) → line_ends (labels bs) ≡ pairs_of bs
bond_ends [] = refl
bond_ends (b ∷ bs) = ap (λ es. in_end b ∷ out_end b ∷ es) (bond_ends bs)

module _ (k : PairAt) (sound : IsSoundState (parities_on k.group k.sectors) k.opens k.state) (at : IsStepAt k.state (step_of k)) (lines : AreLines k.sectors k.state.left)
    (p q : Placed) (hp : IsNodeOf k.group k.sectors p k.first.node) (hq : IsNodeOf k.group k.sectors q k.second.node) where
  abbrev pub both : List Node
  both = k.first.node ∷ k.second.node ∷ []

  pub network : IsNetwork (k.first.node ∷ k.second.node ∷ []) k.bonds (kept (k.first.node ∷ k.second.node ∷ []) k.bonds)
  network =
      local_pair (parities_on k.group k.sectors) k.opens k.before k.first k.between k.second k.behind k.state.left k.bonds k.left
      (subst (λ gs. IsNetwork (nodes gs) k.state.left k.opens) at.0 sound.network) at.1 at.2

  plain : AreLines k.sectors k.bonds
  plain = lines_first [] k.sectors k.bonds k.left (lines_perm [] k.sectors at.1 lines)

  pub word_is : word (k.first.node ∷ k.second.node ∷ []) ≡ k.first.node.ends ++ k.second.node.ends
  word_is = ap (λ es. k.first.node.ends ++ es) (append-nil k.second.node.ends)

  both_distinct : IsDistinct same_end (k.first.node.ends ++ k.second.node.ends)
  both_distinct = subst (IsDistinct same_end) word_is network.distinct

  pub first_distinct : IsDistinct same_end k.first.node.ends
  first_distinct = distinct_first same_end k.first.node.ends k.second.node.ends both_distinct

  pub second_distinct : IsDistinct same_end k.second.node.ends
  second_distinct = distinct_second same_end k.first.node.ends k.second.node.ends both_distinct

  pub kept_distinct : IsDistinct same_end (kept (k.first.node ∷ k.second.node ∷ []) k.bonds)
  kept_distinct = distinct_second same_end (pairs_of k.bonds) (kept (k.first.node ∷ k.second.node ∷ []) k.bonds) (distinct-perm same_end end_test network.complete network.distinct)

  pub legs_are : p.tensor.legs ++ q.tensor.legs ≡ legs_on k.sectors (word (k.first.node ∷ k.second.node ∷ []))
  legs_are = ap₂ ◌++◌ hp.legs hq.legs ∙ sym (legs-append k.sectors k.first.node.ends k.second.node.ends) ∙ ap (legs_on k.sectors) (sym word_is)

  pub labels_are : p.labels ++ q.labels ≡ labels_on (word (k.first.node ∷ k.second.node ∷ []))
  labels_are = ap₂ ◌++◌ hp.labels hq.labels ∙ sym (labels-append k.first.node.ends k.second.node.ends) ∙ ap (λ es. labels_on es) (sym word_is)

  pub ends_are : ends_of (p.tensor.legs ++ q.tensor.legs) (p.labels ++ q.labels) ≡ word (k.first.node ∷ k.second.node ∷ [])
  ends_are = ap₂ ends_of legs_are labels_are ∙ ends_on k.sectors (word (k.first.node ∷ k.second.node ∷ []))

  pub left_are : picked no_leg (p.tensor.legs ++ q.tensor.legs) (places_left (labels k.bonds) 0 (p.labels ++ q.labels)) ≡ legs_on k.sectors (kept (k.first.node ∷ k.second.node ∷ []) k.bonds)
  left_are =
      ap₂ (λ gs ls. picked no_leg gs (places_left (labels k.bonds) 0 ls)) legs_are labels_are
      ∙ left_legs k.sectors (labels k.bonds) (word (k.first.node ∷ k.second.node ∷ []))

  -- an entry of the result, by the values of all legs at which its one summand stands
  pub entry_by : (c : CombinerValue) → IsCombiner c → (v a : Assignment) → ((e : End) → is_in int_eq e.label (labels k.bonds) ≡ false → v e ≡ a e) →
      ((b : Bond) → is_in int_eq b.label (labels k.bonds) ≡ true → v (in_end b) ≡ v (out_end b)) → (us vs : List ℕ) → values k.first.node.ends v ≡ us → values k.second.node.ends v ≡ vs →
      IsValues p.tensor.legs us → IsValues q.tensor.legs vs → (xs : List ℕ) → values (kept (k.first.node ∷ k.second.node ∷ []) k.bonds) a ≡ xs →
      IsFusedAt c k.bonds k.first p us ⊎ IsFusedAt c k.bonds k.second q vs →
      (order : List ℕ) → IsOrderOf (labels k.bonds) (ends_of (p.tensor.legs ++ q.tensor.legs) (p.labels ++ q.labels)) order →
      (made_by k).node.entry xs ≡ signed (odd_flux (nodes k.between) && k.second.node.odd)
      (signed (exchange_sign ◌==◌ (is_odd_at (leg_parities k.group (p.tensor.legs ++ q.tensor.legs) (us ++ vs))) (positions (length (p.tensor.legs ++ q.tensor.legs))) order)
      (mul_g (entry_of p.tensor us) (entry_of q.tensor vs)))
  entry_by c hc v a off on us vs first second ru rv xs given which order ho =
      ap (made_by k).node.entry (sym (left_values k.first.node k.second.node k.bonds at.2 v a off on us vs first second ∙ given))
      ∙ fuse_entry_law k.group k.sectors k.opens k.state k.before k.first k.between k.second k.behind k.bonds k.left c p q us vs sound at lines hc hp hq ru rv
      (all_meet k.first.node k.second.node k.bonds at.2 v a off on us vs first second) which
      ∙ ap (λ b. signed (odd_flux (nodes k.between) && k.second.node.odd) (signed b (mul_g (entry_of p.tensor us) (entry_of q.tensor vs)))) sign_is
    where
      words : List End
      words = word (k.first.node ∷ k.second.node ∷ [])

      count : length (p.tensor.legs ++ q.tensor.legs) ≡ length (word (k.first.node ∷ k.second.node ∷ []))
      count = ap (λ (gs : List LegValue). length gs) legs_are ∙ length-legs k.sectors (word (k.first.node ∷ k.second.node ∷ []))

      in_word : IsOrderOf (labels k.bonds) (word (k.first.node ∷ k.second.node ∷ [])) order
      in_word = subst (λ es. IsOrderOf (labels k.bonds) es order) ends_are ho

      long : length (us ++ vs) ≡ length (word (k.first.node ∷ k.second.node ∷ []))
      long =
          ap (λ (ws : List ℕ). length ws) (ap₂ ◌++◌ (sym first) (sym second) ∙ sym (whole_values v))
          ∙ length-map (word (k.first.node ∷ k.second.node ∷ [])) v
        where
          whole_values : (w : Assignment) → values (word (k.first.node ∷ k.second.node ∷ [])) w ≡ values k.first.node.ends w ++ values k.second.node.ends w
          whole_values w = ap (λ (es : List End). values es w) word_is ∙ map_append k.first.node.ends k.second.node.ends
            where
              map_append : (es fs : List End) → values (es ++ fs) w ≡ values es w ++ values fs w
              map_append [] fs = refl
              map_append (e ∷ es) fs = ap (λ ws. w e ∷ ws) (map_append es fs)

      sign_is : sign (parities_on k.group k.sectors) (k.first.node ∷ k.second.node ∷ []) k.bonds (kept (k.first.node ∷ k.second.node ∷ []) k.bonds) (at_values (word (k.first.node ∷ k.second.node ∷ [])) (us ++ vs))
          ≡ exchange_sign ◌==◌ (is_odd_at (leg_parities k.group (p.tensor.legs ++ q.tensor.legs) (us ++ vs))) (positions (length (p.tensor.legs ++ q.tensor.legs))) order
      sign_is =
          places_sign k.group k.sectors (k.first.node ∷ k.second.node ∷ []) k.bonds (us ++ vs) order network.distinct plain long in_word.within
          (in_word.ends ∙ ap (λ es. es ++ kept (k.first.node ∷ k.second.node ∷ []) k.bonds) (bond_ends k.bonds))
          ∙ ap₂ (λ gs n. exchange_sign ◌==◌ (is_odd_at (leg_parities k.group gs (us ++ vs))) (positions n) order) (sym legs_are) (sym count)
