-- The text of a tensor means the tensor.
use Rattle.std.proofs.Common.{◌≡◌, ℕ, ◌+◌, ℤ, List, length, map, filter, true, false, ◌&&◌, not, Some, None, refl, ap, ap₂, subst, ◌∙◌, arith}
use Rattle.std.specs.Prelude.{Option, nat_lt, unwrap_or, codes}
use Rattle.std.specs.Option.{option_or, option_map, option_map_or, IsSomeAnd}
use Rattle.std.specs.List.{All}
use Rattle.std.proofs.lemmas.Bool.{le-ltb}
use Rattle.std.proofs.lemmas.List.{length-map}
use Rattle.std.proofs.lemmas.List.Elements.{All-filter}
use Rattle.serde_json.specs.Data.{Data, null}
use Rattle.serde_json.specs.Find.{get}
use Rattle.qn_json.specs.Forms.{has}
use Rattle.qn_json.specs.Tree.{items}
use Rattle.qn_index.specs.Legs.{LegValue}
use Rattle.qn_value.specs.Tensors.{BlockValue}
use Rattle.qn_block.specs.Blocked.{BlockedValue, IsBlocked, is_filled}
use Rattle.qn_block.proofs.Ascending.{filtered_is}
use Rattle.qn_parts.specs.declared.fault.Fault.{Fault}
use Rattle.qn_parts.specs.Faults.{fault, fault_if, first_of}
use Rattle.qn_parts.specs.Groups.{factor_of, group_fault}
use Rattle.qn_parts.specs.Sectors.{is_charge, charge_of}
use Rattle.qn_parts.specs.Tensors.{are_legs, are_blocks, is_tensor, leg_of, legs_data, legs_of, flux_of, blocks_data, blocks_of, block_of, tensor_of, leg_fault, flux_fault, made_fault, entry_fault, parts_fault, tensor_fault}
use Rattle.qn_json.specs.Texts.{list_data}
use Rattle.qn_parts.specs.TensorTexts.{factor_data, charge_data, leg_data, block_data, tensor_data}
use Rattle.qn_parts.specs.Documents.{group_data, factors_of, is_tensor_document, tensor_document_fault, IsTensorOf}
use Rattle.qn_parts.proofs.BlockWalk.{made_right}
use Rattle.qn_doc.specs.TensorsReadBack.{HasGaussians, IsPrintable, canonical, TensorReadsBack, TensorTextReadsBack}
use Rattle.qn_doc.proofs.Written.{items_back}
use Rattle.qn_doc.proofs.NumbersBack.{Small, small_charge, is_charge_back, charge_back, first_out_none}
use Rattle.qn_doc.proofs.GroupsBack.{is_group_back, group_back, group_sound}
use Rattle.qn_doc.proofs.LegsBack.{IsKnownLeg, known_legs, are_legs_back, legs_back, legs_sound}
use Rattle.qn_doc.proofs.BlocksBack.{IsKnownBlock, known_blocks, are_blocks_back, blocks_back, blocks_sound}
use Rattle.qn_charge.specs.Laws.{length_canonical}

pub none_then : (a b : Option Fault) → a ≡ None → b ≡ None → option_or a b ≡ None
none_then None b p q = q
none_then (Some x) b p q = cc

-- a tree that has the legs, the flux and the blocks of a tensor
pub record HasParts (t : BlockedValue) (d : Data) : Type 0 where
  pub legs : get (codes "legs") d ≡ Some (list_data (map leg_data t.legs))
  pub flux : get (codes "flux") d ≡ Some (charge_data t.flux)
  pub blocks : get (codes "blocks") d ≡ Some (list_data (map block_data (filter is_filled t.blocks)))

module _ (t : BlockedValue) (d : Data) (h : IsPrintable t) (at : HasParts t d) where
  abbrev bs : List BlockValue
  bs = filter is_filled t.blocks

  legs : All (IsKnownLeg t.group) t.legs
  legs = known_legs t.group t.legs h.blocked.group h.factors h.blocked.sound h.blocked.charges

  kept : IsBlocked (canonical t)
  kept = filtered_is t h.blocked

  blocks : All IsKnownBlock bs
  blocks = known_blocks t.group t.legs t.flux bs h.blocked.sound kept.blocks (All-filter is_filled HasGaussians t.blocks h.entries)

  small : All Small t.flux
  small = small_charge t.group t.flux h.blocked.group h.blocked.flux.canonical h.limits.flux

  count : length t.flux ≡ length t.group
  count = length_canonical t.group t.flux h.blocked.flux.canonical

  legs_is : legs_data d ≡ map leg_data t.legs
  legs_is = ap (λ o. items (unwrap_or o null)) at.legs ∙ items_back (map leg_data t.legs)

  legs_of_is : legs_of t.group d ≡ t.legs
  legs_of_is = ap (map (leg_of t.group)) legs_is ∙ legs_back t.group t.legs legs

  flux_is : flux_of t.group d ≡ t.flux
  flux_is = ap (λ o. charge_of t.group (unwrap_or o null)) at.flux ∙ charge_back t.group t.flux h.factors count small

  blocks_is : blocks_data d ≡ map block_data bs
  blocks_is = ap (λ o. items (unwrap_or o null)) at.blocks ∙ items_back (map block_data bs)

  blocks_of_is : blocks_of d ≡ bs
  blocks_of_is = ap (map block_of) blocks_is ∙ blocks_back bs blocks

  pub form : is_tensor (length t.group) d ≡ true
  unfolding is_tensor
  form =
      ap₂ (λ a b. a && b) (ap (has (are_legs (length t.group))) at.legs ∙ are_legs_back t.group t.legs legs)
      (ap₂ (λ a b. a && b) (ap (has (is_charge (length t.group))) at.flux ∙ is_charge_back (length t.group) t.flux count small)
      (ap (has are_blocks) at.blocks ∙ are_blocks_back bs blocks))

  made : (k : ℕ) → made_fault t.group k (legs_of t.group d) (flux_of t.group d) (blocks_of d) ≡ None
  made k =
      ap (λ ls. made_fault t.group k ls (flux_of t.group d) (blocks_of d)) legs_of_is
      ∙ (ap (λ q. made_fault t.group k t.legs q (blocks_of d)) flux_is
      ∙ (ap (λ xs. made_fault t.group k t.legs t.flux xs) blocks_of_is ∙ made_right t.group k t.legs t.flux bs kept))

  parts : (k : ℕ) → parts_fault t.group k d ≡ None
  parts k =
      none_then (first_of (leg_fault t.group k) (legs_data d)) _ (ap (first_of (leg_fault t.group k)) legs_is ∙ legs_sound t.group k t.legs legs)
      (none_then (flux_fault t.group k (flux_of t.group d)) _
      (ap (flux_fault t.group k) flux_is ∙ ap (option_map (λ i. fault 12 k 0 (i + 1))) (first_out_none 1000000000000 t.group t.flux h.blocked.flux.canonical h.limits.flux))
      (none_then (made_fault t.group k (legs_of t.group d) (flux_of t.group d) (blocks_of d)) _ (made k)
      (ap (first_of (entry_fault k)) blocks_is ∙ blocks_sound k bs blocks)))

  few : nat_lt 32 (length (legs_data d)) ≡ false
  few = le-ltb 32 (length (legs_data d)) (omega (arith, ap length legs_is, length-map t.legs leg_data, h.limits.few))

  -- it has no fault
  pub tensor_sound : (k : ℕ) → tensor_fault t.group k d ≡ None
  tensor_sound k = none_then (fault_if (nat_lt 32 (length (legs_data d))) (fault 8 k 0 0)) (parts_fault t.group k d) (ap (λ b. fault_if b (fault 8 k 0 0)) few) (parts k)

  abbrev tensor_made : List LegValue → List ℤ → List BlockValue → BlockedValue
  tensor_made ls q xs = record { group = t.group; legs = ls; flux = q; blocks = xs }

  -- and means the tensor
  pub tensor_means : tensor_of t.group d ≡ canonical t
  tensor_means =
      ap (λ ls. tensor_made ls (flux_of t.group d) (blocks_of d)) legs_of_is
      ∙ (ap (λ q. tensor_made t.legs q (blocks_of d)) flux_is ∙ ap (tensor_made t.legs t.flux) blocks_of_is)

module _ (t : BlockedValue) (h : IsPrintable t) where
  abbrev whole : Data
  whole = tensor_data t

  whole_parts : HasParts t whole
  whole_parts = record { legs = refl; flux = refl; blocks = refl }

  group_is : group_data whole ≡ map factor_data t.group
  group_is = items_back (map factor_data t.group)

  factors_is : factors_of whole ≡ t.group
  factors_is = ap (map factor_of) group_is ∙ group_back t.group h.blocked.group

  document : is_tensor_document whole ≡ true
  document =
      ap₂ (λ a b. a && b) (is_group_back t.group h.blocked.group)
      (ap (λ n. is_tensor n whole) (ap length group_is ∙ length-map t.group factor_data) ∙ form t whole h whole_parts)

  pub sound : tensor_document_fault whole ≡ None
  sound =
      none_then (fault_if (not (is_tensor_document whole)) (fault 3 0 0 0)) _ (ap (λ b. fault_if (not b) (fault 3 0 0 0)) document)
      (none_then (group_fault (group_data whole)) (tensor_fault (factors_of whole) 1 whole) (ap group_fault group_is ∙ group_sound t.group h.blocked.group h.factors)
      (ap (λ fs. tensor_fault fs 1 whole) factors_is ∙ tensor_sound t whole h whole_parts 1))

  pub means : tensor_of (factors_of whole) whole ≡ canonical t
  means = ap (λ fs. tensor_of fs whole) factors_is ∙ tensor_means t whole h whole_parts

pub reads_back : TensorReadsBack
reads_back t h = (sound t h, means t h)

pub text_reads_back : TensorTextReadsBack
text_reads_back t bytes h e few = (
  none_then (fault_if (nat_lt 67108864 (length bytes)) (fault 1 0 0 0)) _ (ap (λ b. fault_if b (fault 1 0 0 0)) (le-ltb 67108864 (length bytes) few))
      (ap (λ o. option_map_or tensor_document_fault o (Some (fault 2 0 0 0))) e ∙ sound t h),
  λ any is. subst (λ o. IsSomeAnd o (λ d. IsTensorOf d any)) e is ∙ means t h,
)
