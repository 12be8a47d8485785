-- States of a document: their legs, their tensors and their faults.
use Rattle.std.proofs.Common.{◌≡◌, ℕ, ◌^◌, List, length, map, None, inl, inr, refl, ap, ◌∙◌, subst, arith, ◌+◌, sym, true, not}
use Rattle.std.specs.Prelude.{Option, Bool, codes, ◌==◌}
use Rattle.std.specs.Option.{option_or}
use Rattle.std.specs.List.{All}
use Rattle.std.proofs.lemmas.List.{length-map}
use Rattle.std.proofs.lemmas.Bool.{eq-eqb}
use Rattle.std.proofs.lemmas.List.Elements.{All-weaker}
use Rattle.serde_json.specs.Data.{Data}
use Rattle.qn_charge.specs.declared.factor.Factor.{Factor}
use Rattle.qn_charge.specs.Charges.{IsWithin}
use Rattle.qn_charge.specs.Laws.{within_more}
use Rattle.qn_index.specs.declared.leg.Dir.TheVariants.{Out}
use Rattle.qn_index.specs.Legs.{LegValue}
use Rattle.qn_block.specs.Blocked.{BlockedValue}
use Rattle.qn_sites.specs.Sites.{SiteValue}
use Rattle.qn_mps.specs.declared.chain.ChainKind.TheVariants.{State}
use Rattle.qn_mps.specs.declared.fault.ChainFault.{ChainFault}
use Rattle.qn_mps.specs.Chains.{ChainValue}
use Rattle.qn_mps.specs.Refusals.{IsChainFault, IsFaultless}
use Rattle.qn_parts.specs.declared.fault.DocFault.{DocFault}
use Rattle.qn_parts.specs.declared.fault.DocFault.TheVariants.{Bad, Memory}
use Rattle.qn_parts.specs.Faults.{Fails, fault, fault_if, first_of}
use Rattle.qn_parts.specs.Tensors.{IsOfDocument, tensor_fault, tensor_of}
use Rattle.qn_parts.specs.Documents.{factors_of}
use Rattle.qn_doc.specs.Networks.{FailsBy}
use Rattle.qn_sumdoc.specs.Sites.{AreSitesOf, sites_of}
use Rattle.qn_sumdoc.specs.Chains.{AreLegsOf, AreTensorsOf, IsChainOf, IsLegsFault, IsStateTensor, placed, site_legs, tensors_data, tensors_fault}
use Rattle.qn_opsum.specs.Sums.{SumValue}
use Rattle.qn_sumdoc.specs.States.{AreChainsOf, AreStatesOf, IsFaultOfChains, IsLaterFault, IsOptionalSum, IsSumFault}

-- ---- sites

pub legs_right : (d : Data) (ss : List SiteValue) (ls : List LegValue) → AreSitesOf d ss → ls ≡ site_legs ss → All (λ (l : LegValue). l.arrow ≡ Out) ls → AreLegsOf d ls
legs_right d ss ls h is out =
    let leg : SiteValue → LegValue = λ s. s.leg in
    let count : length ls ≡ length ss = ap length is ∙ length-map ss leg in
    record { are = is ∙ ap site_legs h.are; some = omega (arith, count, h.some); few = omega (arith, count, h.few); out = out }

-- ---- chains

pub chain_right : (key : List ℕ) (d : Data) (fs : List Factor) (ls : List LegValue) (ts : List BlockedValue) (c : ChainValue) → fs ≡ factors_of d → AreLegsOf d ls → AreTensorsOf key d ts
    → c ≡ record { group = fs; kind = State; sites = ls; tensors = ts } → IsFaultless State ls ts → IsChainOf key d c
chain_right key d fs ls ts c g l t is right =
    let chain : List Factor → List LegValue → List BlockedValue → ChainValue = λ a b x. record { group = a; kind = State; sites = b; tensors = x } in
    record {
      is = is ∙ (ap (λ a. chain a ls ts) g ∙ (ap (λ b. chain (factors_of d) b ts) l.are ∙ ap (λ x. chain (factors_of d) (site_legs (sites_of d)) x) t.are));
      right = subst (λ x. IsFaultless State (site_legs (sites_of d)) x) t.are (subst (λ b. IsFaultless State b ts) l.are right);
    }

pub chain_wrong : (key : List ℕ) (base : ℕ) (d : Data) (ls : List LegValue) (ts : List BlockedValue) (x : ChainFault) (e : DocFault) → AreLegsOf d ls → AreTensorsOf key d ts
    → IsChainFault State ls ts x → Fails e (placed base x) → FailsBy None (IsLegsFault key base d) e
chain_wrong key base d ls ts x (Bad f) l t h p =
    inr (refl, (x, p, subst (λ y. IsChainFault State (site_legs (sites_of d)) y x) t.are (subst (λ b. IsChainFault State b ts x) l.are h)))
chain_wrong key base d ls ts x Memory l t h p = tt

-- ---- tensors

-- a tensor of a document has a flux within the limits of a chain
pub state_tensor : (fs : List Factor) (t : BlockedValue) → t.group ≡ fs → IsOfDocument t → IsStateTensor fs t
state_tensor fs t is h = record { group = is; flux = subst (λ g. IsWithin (2 ^ 41) g t.flux) is (within_more 1000000000000 (2 ^ 41) t.group t.flux (omega arith) h.flux) }

pub groups_of : (fs : List Factor) (ts : List BlockedValue) → All (IsStateTensor fs) ts → All (λ (t : BlockedValue). t.group ≡ fs) ts
groups_of fs ts h = All-weaker (IsStateTensor fs) (λ (t : BlockedValue). t.group ≡ fs) (λ t s. s.group) ts h

pub fluxes_of : (fs : List Factor) (ts : List BlockedValue) → All (IsStateTensor fs) ts → All (λ (t : BlockedValue). IsWithin (2 ^ 41) fs t.flux) ts
fluxes_of fs ts h = All-weaker (IsStateTensor fs) (λ (t : BlockedValue). IsWithin (2 ^ 41) fs t.flux) (λ t s. s.flux) ts h

-- the walk over tensors of which there is one for each site
pub tensors_walk : (key : List ℕ) (base : ℕ) (d : Data) (fs : List Factor) (ds : List Data) → fs ≡ factors_of d → ds ≡ tensors_data key d → length ds ≡ length (sites_of d)
    → first_of (λ k t. tensor_fault fs (base + k) t) ds ≡ tensors_fault key base d
tensors_walk key base d fs ds is list count =
    let own = tensors_data key d in
    let same : (length own == length (sites_of d)) ≡ true = eq-eqb (length own) (length (sites_of d)) (sym (ap length list) ∙ count) in
    ap (λ x. first_of (λ k t. tensor_fault fs (base + k) t) x) list
    ∙ (ap (λ g. first_of (λ k t. tensor_fault g (base + k) t) own) is
    ∙ sym (ap (λ b. option_or (fault_if (not b) (fault 34 base 0 0)) (first_of (λ k t. tensor_fault (factors_of d) (base + k) t) own)) same))

pub tensors_right : (key : List ℕ) (d : Data) (fs : List Factor) (ds : List Data) (ts : List BlockedValue) → fs ≡ factors_of d → ds ≡ tensors_data key d → ts ≡ map (tensor_of fs) ds
    → All (IsStateTensor fs) ts → AreTensorsOf key d ts
tensors_right key d fs ds ts is list are each = record {
  are = are ∙ (ap (map (tensor_of fs)) list ∙ ap (λ g. map (tensor_of g) (tensors_data key d)) is);
  each = subst (λ g. All (IsStateTensor g) ts) is each;
}

-- ---- the whole document

pub bra_fails : (d : Data) (e : DocFault) → FailsBy (tensors_fault (codes "bra") 100 d) (IsLegsFault (codes "bra") 100 d) e → FailsBy None (IsFaultOfChains d) e
bra_fails d (Bad f) h = inr (refl, inl h)
bra_fails d Memory h = tt

pub ket_fails : (d : Data) (c : ChainValue) (e : DocFault) → tensors_fault (codes "bra") 100 d ≡ None → IsChainOf (codes "bra") d c
    → FailsBy (tensors_fault (codes "ket") 200 d) (IsLegsFault (codes "ket") 200 d) e → FailsBy None (IsFaultOfChains d) e
ket_fails d c (Bad f) none is h = inr (refl, inr (record { tensors = none; legs = is.right }, h))
ket_fails d c Memory none is h = tt

-- two chains that are meant
pub chains_right : (d : Data) (a b : ChainValue) → tensors_fault (codes "bra") 100 d ≡ None → IsChainOf (codes "bra") d a → tensors_fault (codes "ket") 200 d ≡ None → IsChainOf (codes "ket") d b
    → AreChainsOf d a b
chains_right d a b no_bra bra no_ket ket = record {
  bra = bra.is;
  ket = ket.is;
  right_bra = record { tensors = no_bra; legs = bra.right };
  right_ket = record { tensors = no_ket; legs = ket.right };
}

pub states_right : (w : Bool) (d : Data) (ss : List SiteValue) (s : Option SumValue) (a b : ChainValue) → AreSitesOf d ss → IsOptionalSum w d s → AreChainsOf d a b
    → AreStatesOf w d (record { sites = ss; sum = s; bra = a; ket = b })
states_right w d ss s a b sites sum chains = record { sites = sites.are; sum = sum; chains = chains }

pub sum_fails : (w : Bool) (d : Data) (e : DocFault) → FailsBy None (IsSumFault w d) e → FailsBy None (IsLaterFault w d) e
sum_fails w d (Bad f) h = elim h [ inl is ↦ cc | inr p ↦ inr (refl, inl p.1) ]
sum_fails w d Memory h = tt

pub chains_fail : (w : Bool) (d : Data) (v : Option SumValue) (e : DocFault) → IsOptionalSum w d v → FailsBy None (IsFaultOfChains d) e → FailsBy None (IsLaterFault w d) e
chains_fail w d v (Bad f) s h = elim h [ inl is ↦ cc | inr p ↦ inr (refl, inr ((v, s), p.1)) ]
chains_fail w d v Memory s h = tt
