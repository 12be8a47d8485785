-- The tensors of chains as members of networks.
use Rattle.std.proofs.Common.{◌≡◌, ◌≤◌, ◌<◌, ◌^◌, ℕ, suc, ℤ, Bool, true, false, cond, ◌==◌, None, List, [], ◌∷◌, length, get_or, reverse, refl, sym, ◌∙◌, ap, subst, arith}
use Rattle.std.specs.List.{All}
use Rattle.std.proofs.lemmas.List.{get_or_default, length-reverse}
use Rattle.std.proofs.lemmas.List.Elements.{All-nil, All-cons}
use Rattle.qn_charge.specs.declared.factor.Factor.{Factor}
use Rattle.qn_charge.specs.Charges.{IsWithin, neg_charge}
use Rattle.qn_charge.specs.Laws.{within_neg}
use Rattle.qn_index.specs.Legs.{LegValue}
use Rattle.qn_value.proofs.PlacedLemmas.{all_first, all_others}
use Rattle.qn_block.specs.Blocked.{BlockedValue, IsConjugate, tensor_of}
use Rattle.qn_block.proofs.Mirror.{conjugate_length}
use Rattle.qn_net.specs.Members.{LabelledMember, IsMemberOf}
use Rattle.qn_net.specs.Members.MemberValue.{own}
use Rattle.qn_net.specs.Refusals.{IsFaultless}
use Rattle.qn_braket.specs.Chains.{AreConjugates, AreLegsOf, with_labels, back_with_labels, legs_left, legs_right, leg_at, tensor_at, no_tensor}
use Rattle.qn_mps.specs.declared.chain.ChainKind.{ChainKind}
use Rattle.qn_mps.specs.declared.chain.ChainKind.TheVariants.{State, Operator}
use Rattle.qn_mps.specs.Chains.{ChainValue, IsHeld, IsTensorOf, legs_of}
use Rattle.qn_facts.proofs.Lists.{all_reversed}

-- a tensor that may be a member of a network over this group
pub record HasRoom (fs : List Factor) (t : BlockedValue) : Type 0 where
  pub group : t.group ≡ fs
  pub few : length t.legs ≤ 32
  pub flux : IsWithin (2 ^ 41) fs t.flux

-- what `Network::new` asks for
pub record IsReady (fs : List Factor) (ms : List LabelledMember) : Type 0 where
  pub some : 0 < length ms
  pub few : length ms ≤ 256
  pub members : All (IsMemberOf fs) ms
  pub faultless : IsFaultless ms None []

-- with labels they are members

pub members_are : (fs : List Factor) (labels : ℕ → List ℤ) (j : ℕ) (ts : List BlockedValue) → All (HasRoom fs) ts → All (IsMemberOf fs) (with_labels labels j ts)
members_are fs labels j [] h = All-nil (IsMemberOf fs)
members_are fs labels j (t ∷ ts) h =
    let r : HasRoom fs t = all_first (HasRoom fs) t ts h in
    All-cons (IsMemberOf fs) (record { member = own t; labels = labels j }) (with_labels labels (suc j) ts)
    (record { group = r.group; few = r.few; flux = r.flux; narrow = tt })
    (members_are fs labels (suc j) ts (all_others (HasRoom fs) t ts h))

pub back_members_are : (fs : List Factor) (labels : ℕ → List ℤ) (ts : List BlockedValue) → All (HasRoom fs) ts → All (IsMemberOf fs) (back_with_labels labels ts)
back_members_are fs labels ts h = all_reversed (IsMemberOf fs) (with_labels (λ j. reverse (labels j)) 0 ts) (members_are fs (λ j. reverse (labels j)) 0 ts h)

pub members_long : (labels : ℕ → List ℤ) (j : ℕ) (ts : List BlockedValue) → length (with_labels labels j ts) ≡ length ts
members_long labels j [] = refl
members_long labels j (t ∷ ts) = ap suc (members_long labels (suc j) ts)

pub back_members_long : (labels : ℕ → List ℤ) (ts : List BlockedValue) → length (back_with_labels labels ts) ≡ length ts
back_members_long labels ts = length-reverse (with_labels (λ j. reverse (labels j)) 0 ts) ∙ members_long (λ j. reverse (labels j)) 0 ts

-- the conjugates

conjugate_room : (fs : List Factor) (t c : BlockedValue) → HasRoom fs t → IsConjugate (tensor_of t) (tensor_of c) → HasRoom fs c
conjugate_room fs t c r h =
    let long : length c.legs ≡ length t.legs =
    ap (λ (ls : List LegValue). length ls) h.legs ∙ conjugate_length t.legs in
    record {
      group = h.group ∙ r.group;
      few = subst (λ n. n ≤ 32) (sym long) r.few;
      flux = subst (IsWithin (2 ^ 41) fs) (sym (h.flux ∙ ap (λ (gs : List Factor). neg_charge gs t.flux) r.group)) (within_neg (2 ^ 41) fs t.flux r.flux);
    }

pub conjugates_room : (fs : List Factor) (ts cs : List BlockedValue) → All (HasRoom fs) ts → AreConjugates ts cs → All (HasRoom fs) cs
conjugates_room fs [] [] h k = h
conjugates_room fs [] (c ∷ cs) h k = absurd k
conjugates_room fs (t ∷ ts) [] h k = absurd k
conjugates_room fs (t ∷ ts) (c ∷ cs) h k =
    All-cons (HasRoom fs) c cs (conjugate_room fs t c (all_first (HasRoom fs) t ts h) k.0) (conjugates_room fs ts cs (all_others (HasRoom fs) t ts h) k.1)

-- the tensors of a chain

left_small : (b : Bool) → cond b 0 1 ≤ 1
left_small true = omega arith
left_small false = omega arith

own_small : (kind : ChainKind) (l : LegValue) → length (legs_of kind l) ≤ 2
own_small State l = omega arith
own_small Operator l = omega arith

legs_small : (kind : ChainKind) (l : LegValue) (n j : ℕ) (ls : List LegValue) → AreLegsOf (legs_of kind l) n j ls → length ls ≤ 32
legs_small kind l n j ls h =
    let a : legs_left j ≤ 1 = left_small (j == 0) in
    let b : length (legs_of kind l) ≤ 2 = own_small kind l in
    let c : legs_right n j ≤ 1 = left_small (suc j == n) in
    let e = h.count in
    omega (arith, a, b, c, e)

pub chain_room : (c : ChainValue) (fs : List Factor) → fs ≡ c.group → IsHeld c → All (HasRoom fs) c.tensors
chain_room c fs e h k d lt =
    let t : IsTensorOf c.group (get_or c.tensors k d) = h.tensors k d lt in
    let same : tensor_at c.tensors k ≡ get_or c.tensors k d = get_or_default c.tensors k no_tensor d lt in
    record {
      group = t.group ∙ sym e;
      few = subst (λ (u : BlockedValue). length u.legs ≤ 32) same (legs_small c.kind (leg_at c.sites k) (length c.tensors) k (tensor_at c.tensors k).legs (h.chain.shapes k lt));
      flux = subst (λ (gs : List Factor). IsWithin (2 ^ 41) gs (get_or c.tensors k d).flux) (sym e) t.flux;
    }

pub chain_long : (c : ChainValue) → IsHeld c → (0 < length c.tensors) × (length c.tensors ≤ 64)
chain_long c h =
    let s = h.chain.some in
    let f = h.few in
    let e : length c.tensors ≡ length c.sites = h.chain.count in
    (omega (arith, s, e), omega (arith, f, e))
