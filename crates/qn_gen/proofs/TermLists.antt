-- The sites and the terms of the sum, one more at a time.
use Rattle.std.proofs.Common.{◌≡◌, ◌∙◌, sym, refl, ap, ℕ, suc, ◌+◌, ◌-◌, ◌<◌, List, [], ◌∷◌, ◌++◌, map, arith, codes}
use Rattle.std.proofs.lemmas.List.{append_assoc, flat_map_more}
use Rattle.std.proofs.lemmas.List.FromFn.{map-range_with_len_more}
use Rattle.std.specs.List.{flat_map, range_with_len}
use Rattle.qn_gauss.specs.Gaussian.{Gaussian}
use Rattle.qn_sites.specs.Kinds.{fermion, kind_site}
use Rattle.qn_sites.specs.Sites.{SiteValue}
use Rattle.qn_opsum.specs.Sums.{TermValue}
use Rattle.qn_gen.specs.Workload.{density, drawn, hop, hops, sites, turned}
use Rattle.qn_gen.proofs.Draws.{drawn_here}
use Rattle.qn_facts.proofs.Lists.{range_last}

pub sites_more : (k : ℕ) (ss new : List SiteValue) (s : SiteValue) → ss ≡ sites k → s ≡ kind_site fermion → new ≡ ss ++ s ∷ [] → new ≡ sites (k + 1)
sites_more k ss new s p q r =
    r ∙ (ap (λ (ts : List SiteValue). ts ++ s ∷ []) p ∙ (ap (λ t. sites k ++ t ∷ []) q ∙ sym (map-range_with_len_more (λ j. kind_site fermion) 1 k (1 + k) refl)))

pub hops_more : (ws us vs new : List TermValue) (a b : TermValue) (j : ℕ) → 0 < j → us ≡ ws ++ flat_map hops (range_with_len 1 (j - 1)) → a ≡ hop j (j + 1) → vs ≡ us ++ a ∷ [] → b ≡ hop (j + 1) j → new ≡ vs ++ b ∷ [] → new ≡ ws ++ flat_map hops (range_with_len 1 (j + 1 - 1))
hops_more ws us vs new a b j some p first q second r =
    let both : (us ++ hop j (j + 1) ∷ []) ++ hop (j + 1) j ∷ [] ≡ us ++ hops j = append_assoc us (hop j (j + 1) ∷ []) (hop (j + 1) j ∷ []) in
    let more : (ws ++ flat_map hops (range_with_len 1 (j - 1))) ++ hops j ≡ ws ++ flat_map hops (range_with_len 1 (j - 1) ++ j ∷ []) = flat_map_more hops ws (range_with_len 1 (j - 1)) j in
    let here : 1 + (j - 1) ≡ j = omega (arith, some) in
    let last : range_with_len 1 (suc (j - 1)) ≡ range_with_len 1 (j - 1) ++ (1 + (j - 1)) ∷ [] = range_last 1 (j - 1) in
    let long : suc (j - 1) ≡ j + 1 - 1 = omega (arith, some) in
    let goal : ws ++ flat_map hops (range_with_len 1 (suc (j - 1))) ≡ ws ++ flat_map hops (range_with_len 1 (j + 1 - 1)) = ap (λ k. ws ++ flat_map hops (range_with_len 1 k)) long in
    cc

pub densities_more : (x y k : ℕ) (ws us new : List TermValue) (w : TermValue) (z : Gaussian) → us ≡ ws ++ map (density x) (range_with_len 1 k) → y ≡ turned x k → z ≡ drawn y 0 → w ≡ record { coef = z; factors = (k + 1, codes "N") ∷ [] } → new ≡ us ++ w ∷ [] → new ≡ ws ++ map (density x) (range_with_len 1 (k + 1))
densities_more x y k ws us new w z p q r s t =
    let coef : z ≡ drawn x (k + 1 - 1) = r ∙ (drawn_here x y k q ∙ ap (drawn x) {y = k + 1 - 1} (omega arith)) in
    let term : w ≡ density x (k + 1) = s ∙ ap (λ c. record { coef = c; factors = (k + 1, codes "N") ∷ [] }) coef in
    let more = map-range_with_len_more (density x) 1 k (k + 1) (omega arith) in
    let regroup : (ws ++ map (density x) (range_with_len 1 k)) ++ density x (k + 1) ∷ [] ≡ ws ++ (map (density x) (range_with_len 1 k) ++ density x (k + 1) ∷ []) = append_assoc ws (map (density x) (range_with_len 1 k)) (density x (k + 1) ∷ []) in
    cc
