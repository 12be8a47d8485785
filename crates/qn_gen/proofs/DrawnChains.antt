-- The drawn tensors: what is drawn from a state on, and that they are a chain.
use Rattle.std.proofs.Common.{◌≡◌, ◌∙◌, sym, refl, ap, subst, ℕ, zero, suc, ◌+◌, ◌-◌, ◌<◌, ◌≤◌, ◌^◌, pos, List, [], ◌∷◌, ◌++◌, arith, length, get_or, take, drop, cond, eqb, Bool, true, false, None, rules, tests}
use Rattle.std.proofs.lemmas.List.{append_assoc, get_or-map, length-map}
use Rattle.std.proofs.lemmas.List.Elements.{All-from_get_or}
use Rattle.std.proofs.lemmas.List.FromFn.{length-range_with_len}
use Rattle.std.proofs.lemmas.List.Sums.{sum_by-cons}
use Rattle.std.specs.List.{All, range_with_len, sum_by}
use Rattle.qn_charge.specs.declared.factor.Factor.{Factor}
use Rattle.qn_charge.specs.Charges.{IsWithin}
use Rattle.qn_index.specs.declared.leg.Dir.TheVariants.{Out, In}
use Rattle.qn_index.specs.Legs.{LegValue, Meets}
use Rattle.qn_block.specs.Blocked.{BlockedValue}
use Rattle.qn_net.specs.Members.{no_leg}
use Rattle.qn_sites.specs.Sites.{SiteValue}
use Rattle.qn_opsum.specs.Sums.{no_site}
use Rattle.qn_braket.specs.Chains.{AreLegsOf, HasLink, first_leg, last_leg, leg_at, no_tensor, tensor_at}
use Rattle.qn_mps.specs.declared.chain.ChainKind.TheVariants.{State}
use Rattle.qn_mps.specs.declared.fault.ChainFault.{ChainFault}
use Rattle.qn_mps.specs.declared.fault.ChainFault.TheVariants.{ChainShape, LinkClash, Memory}
use Rattle.qn_mps.specs.Refusals.{IsChainFault, IsFaultless}
use Rattle.qn_gen.specs.Workload.{drawn_chain, drawn_tensor, entries_at, entries_in, flux_at, group, leg_list, legs_at, particles, site_leg, sites, turned, tuples_at}
use Rattle.qn_gen.proofs.FermionSums.{length_sites, site_is}
use Rattle.qn_gen.proofs.Draws.{blocks_later, later}
use Rattle.qn_gen.proofs.Limits.{framed, link_leg}

-- ---- drawn from a state on

tensor_later : (seed n i k j : ℕ) → drawn_tensor (turned seed i) n k j ≡ drawn_tensor seed n (i + k) j
tensor_later seed n i k j = ap (λ bs. record { group = group; legs = legs_at n j; flux = flux_at n j; blocks = bs }) (blocks_later seed i k (legs_at n j) (tuples_at n j))

pub chain_later : (seed n i k : ℕ) (js : List ℕ) → drawn_chain (turned seed i) n k js ≡ drawn_chain seed n (i + k) js
chain_later seed n i k [] = refl
chain_later seed n i k (j ∷ js) =
    let here = tensor_later seed n i k j in
    let there = chain_later seed n i (k + entries_at n j) js in
    let next : drawn_chain seed n (i + (k + entries_at n j)) js ≡ drawn_chain seed n (i + k + entries_at n j) js = ap (λ m. drawn_chain seed n m js) (omega arith) in
    cc

chain_first : (x n j : ℕ) (js : List ℕ) → drawn_chain x n 0 (j ∷ js) ≡ drawn_tensor x n 0 j ∷ drawn_chain (turned x (entries_at n j)) n 0 js
chain_first x n j js = ap (λ ts. drawn_tensor x n 0 j ∷ ts) (ap (λ m. drawn_chain x n m js) (omega arith) ∙ sym (chain_later x n (entries_at n j) 0 js))

-- the tensors so far, of k sites, and those still to come are all tensors, and so are their draws
pub record AreMade (x n k y : ℕ) (ts : List BlockedValue) : Type 0 where
  pub tensors : ts ++ drawn_chain y n 0 (range_with_len (k + 1) (n - k)) ≡ drawn_chain x n 0 (range_with_len 1 n)
  pub state : turned y (sum_by (entries_at n) (range_with_len (k + 1) (n - k))) ≡ turned x (entries_in n)

pub made_more : (x n k y z : ℕ) (ts us : List BlockedValue) (t : BlockedValue) → AreMade x n k y ts → k < n → t ≡ drawn_tensor y n 0 (k + 1) → z ≡ turned y (entries_at n (k + 1)) → us ≡ ts ++ t ∷ [] → AreMade x n (k + 1) z us
made_more x n k y z ts us t are lt made state pushed =
    let rest = range_with_len (k + 1 + 1) (n - (k + 1)) in
    let now : range_with_len (k + 1) (n - k) ≡ (k + 1) ∷ rest = ap (range_with_len (k + 1)) {y = suc (n - (k + 1))} (omega (arith, lt)) in
    let whole : ts ++ drawn_chain y n 0 ((k + 1) ∷ rest) ≡ drawn_chain x n 0 (range_with_len 1 n) = subst (λ js. ts ++ drawn_chain y n 0 js ≡ drawn_chain x n 0 (range_with_len 1 n)) now are.tensors in
    let first = chain_first y n (k + 1) rest in
    let regroup : (ts ++ drawn_tensor y n 0 (k + 1) ∷ []) ++ drawn_chain (turned y (entries_at n (k + 1))) n 0 rest ≡ ts ++ drawn_tensor y n 0 (k + 1) ∷ drawn_chain (turned y (entries_at n (k + 1))) n 0 rest = append_assoc ts (drawn_tensor y n 0 (k + 1) ∷ []) (drawn_chain (turned y (entries_at n (k + 1))) n 0 rest) in
    let sizes : entries_at n (k + 1) + sum_by (entries_at n) rest ≡ sum_by (entries_at n) ((k + 1) ∷ rest) = sym (sum_by-cons (entries_at n) (k + 1) rest) in
    let states : turned y (sum_by (entries_at n) ((k + 1) ∷ rest)) ≡ turned x (entries_in n) = subst (λ js. turned y (sum_by (entries_at n) js) ≡ turned x (entries_in n)) now are.state in
    record {
      tensors = cc;
      state = ap (λ m. turned m (sum_by (entries_at n) rest)) state ∙ (later y (entries_at n (k + 1)) (sum_by (entries_at n) rest) ∙ (ap (turned y) sizes ∙ states));
    }

-- ---- the tensors by their places

pub length_chain : (x n i : ℕ) (js : List ℕ) → length (drawn_chain x n i js) ≡ length js
length_chain x n i [] = refl
length_chain x n i (j ∷ js) = ap suc (length_chain x n (i + entries_at n j) js)

-- the tensor at a place is drawn for its site
at_place : (x n i a k m : ℕ) (d : BlockedValue) → m < k → (s : ℕ) × (get_or (drawn_chain x n i (range_with_len a k)) m d ≡ drawn_tensor x n s (a + m))
at_place x n i a zero m d lt = absurd (omega (arith, lt))
at_place x n i a (suc k) zero d lt = (i, ap (drawn_tensor x n i) {y = a + 0} (omega arith))
at_place x n i a (suc k) (suc m) d lt =
    let r = at_place x n (i + entries_at n a) (a + 1) k m d (omega (arith, lt)) in
    (r.0, r.1 ∙ ap (drawn_tensor x n r.0) {y = a + suc m} (omega arith))

pub legs_are : (x n m : ℕ) → m < n → (tensor_at (drawn_chain x n 0 (range_with_len 1 n)) m).legs ≡ legs_at n (1 + m)
legs_are x n m lt = ap (λ (t : BlockedValue). t.legs) (at_place x n 0 1 n m no_tensor lt).1

length_all : (x n : ℕ) → length (drawn_chain x n 0 (range_with_len 1 n)) ≡ n
length_all x n = length_chain x n 0 (range_with_len 1 n) ∙ length-range_with_len 1 n

groups_are : (x n : ℕ) → All (λ (t : BlockedValue). t.group ≡ group) (drawn_chain x n 0 (range_with_len 1 n))
groups_are x n = All-from_get_or (λ (t : BlockedValue). t.group ≡ group) (drawn_chain x n 0 (range_with_len 1 n)) no_tensor (λ m lt. ap (λ (t : BlockedValue). t.group) (at_place x n 0 1 n m no_tensor (omega (arith, lt, length_all x n))).1)

flux_within : (n j : ℕ) → n ≤ 32 → IsWithin (2 ^ 41) group (flux_at n j)
flux_within n j few = by (eqb j n)
  where
    by : (b : Bool) → IsWithin (2 ^ 41) group (cond b (pos (particles n)) (pos 0) ∷ [])
    by true = (omega (arith, few), tt)
    by false = (omega arith, tt)

fluxes_are : (x n : ℕ) → n ≤ 32 → All (λ (t : BlockedValue). IsWithin (2 ^ 41) group t.flux) (drawn_chain x n 0 (range_with_len 1 n))
fluxes_are x n few =
    All-from_get_or (λ (t : BlockedValue). IsWithin (2 ^ 41) group t.flux) (drawn_chain x n 0 (range_with_len 1 n)) no_tensor (λ m lt.
    let e = ap (λ (t : BlockedValue). t.flux) (at_place x n 0 1 n m no_tensor (omega (arith, lt, length_all x n))).1 in
    subst (IsWithin (2 ^ 41) group) (sym e) (flux_within n (1 + m) few))

-- ---- the legs of the sites

pub length_legs : (n : ℕ) → length (leg_list n) ≡ n
length_legs n = length-map (sites n) (λ (s : SiteValue). s.leg) ∙ length_sites n

leg_is : (n m : ℕ) (d : LegValue) → m < n → get_or (leg_list n) m d ≡ site_leg
leg_is n m d lt = get_or-map (λ (s : SiteValue). s.leg) (sites n) m no_site d (omega (arith, lt, length_sites n)) ∙ ap (λ (s : SiteValue). s.leg) (site_is n m no_site lt)

legs_out : (n : ℕ) → All (λ (l : LegValue). l.arrow ≡ Out) (leg_list n)
legs_out n = All-from_get_or (λ (l : LegValue). l.arrow ≡ Out) (leg_list n) no_leg (λ m lt. ap (λ (l : LegValue). l.arrow) (leg_is n m no_leg (omega (arith, lt, length_legs n))))

-- ---- the chain has no fault

framed_count : (a b : Bool) (l s r : LegValue) → length (framed a b l s r) ≡ cond a 0 1 + (1 + cond b 0 1)
framed_count true true l s r = refl
framed_count true false l s r = refl
framed_count false true l s r = refl
framed_count false false l s r = refl

framed_own : (a b : Bool) (l s r : LegValue) → take 1 (drop (cond a 0 1) (framed a b l s r)) ≡ s ∷ []
framed_own true b l s r = refl
framed_own false b l s r = refl

framed_last : (a : Bool) (l s r : LegValue) → leg_at (framed a false l s r) (length (framed a false l s r) - 1) ≡ r
framed_last true l s r = refl
framed_last false l s r = refl

-- the first place is the first site
first_place : (m : ℕ) → eqb (suc m) 1 ≡ eqb m 0
first_place zero = refl
first_place (suc m) =
    let left : eqb (suc (suc m)) 1 ≡ false = search (rules, tests) in
    let right : eqb (suc m) 0 ≡ false = search (rules, tests) in
    left ∙ sym right

-- the legs of the tensor at a place, from 0
framed_at : (x n m : ℕ) → m < n → (tensor_at (drawn_chain x n 0 (range_with_len 1 n)) m).legs ≡ framed (eqb m 0) (eqb (suc m) n) (link_leg Out n m) site_leg (link_leg In n (suc m))
framed_at x n m lt =
    let one : 1 + m ≡ suc m = omega arith in
    let left : suc m - 1 ≡ m = omega arith in
    legs_are x n m lt
    ∙ (ap (legs_at n) one
    ∙ (ap (λ b. framed b (eqb (suc m) n) (link_leg Out n (suc m - 1)) site_leg (link_leg In n (suc m))) (first_place m)
    ∙ ap (λ k. framed (eqb m 0) (eqb (suc m) n) (link_leg Out n k) site_leg (link_leg In n (suc m))) left))

has_legs : (x n m : ℕ) → m < n → AreLegsOf (leg_at (leg_list n) m ∷ []) n m (tensor_at (drawn_chain x n 0 (range_with_len 1 n)) m).legs
has_legs x n m lt =
    subst (λ (l : LegValue). AreLegsOf (l ∷ []) n m (tensor_at (drawn_chain x n 0 (range_with_len 1 n)) m).legs) (sym (leg_is n m no_leg lt))
    (subst (AreLegsOf (site_leg ∷ []) n m) (sym (framed_at x n m lt))
    (record {
      count = framed_count (eqb m 0) (eqb (suc m) n) (link_leg Out n m) site_leg (link_leg In n (suc m));
      own = framed_own (eqb m 0) (eqb (suc m) n) (link_leg Out n m) site_leg (link_leg In n (suc m));
    }))

has_link : (x n m : ℕ) → suc m < n → HasLink (drawn_chain x n 0 (range_with_len 1 n)) m
has_link x n m lt =
    let ts = drawn_chain x n 0 (range_with_len 1 n) in
    let inner : eqb (suc m) n ≡ false = search (rules, tests) in
    let outer : eqb (suc m) 0 ≡ false = search (rules, tests) in
    let left : (tensor_at ts m).legs ≡ framed (eqb m 0) false (link_leg Out n m) site_leg (link_leg In n (suc m)) = framed_at x n m (omega (arith, lt)) ∙ ap (λ b. framed (eqb m 0) b (link_leg Out n m) site_leg (link_leg In n (suc m))) inner in
    let right : (tensor_at ts (suc m)).legs ≡ framed false (eqb (suc (suc m)) n) (link_leg Out n (suc m)) site_leg (link_leg In n (suc (suc m))) = framed_at x n (suc m) lt ∙ ap (λ b. framed b (eqb (suc (suc m)) n) (link_leg Out n (suc m)) site_leg (link_leg In n (suc (suc m)))) outer in
    let last : last_leg (tensor_at ts m) ≡ link_leg In n (suc m) = ap (λ (ls : List LegValue). leg_at ls (length ls - 1)) left ∙ framed_last (eqb m 0) (link_leg Out n m) site_leg (link_leg In n (suc m)) in
    let first : first_leg (tensor_at ts (suc m)) ≡ link_leg Out n (suc m) = ap (λ (ls : List LegValue). leg_at ls 0) right in
    subst (λ (l : LegValue). Meets l (first_leg (tensor_at ts (suc m))) None) (sym last) (subst (λ (l : LegValue). Meets (link_leg In n (suc m)) l None) (sym first) (λ e. cc, refl))

faultless : (x n : ℕ) → IsFaultless State (leg_list n) (drawn_chain x n 0 (range_with_len 1 n))
faultless x n =
    let ts = drawn_chain x n 0 (range_with_len 1 n) in (
      (length_all x n ∙ sym (length_legs n), λ m lt. subst (λ k. AreLegsOf (leg_at (leg_list n) m ∷ []) k m (tensor_at ts m).legs) (sym (length_legs n)) (has_legs x n m (omega (arith, lt, length_legs n)))),
      λ m lt. has_link x n m (omega (arith, lt, length_all x n)),
    )

-- a cause other than want of memory
abbrev pub IsCause : ChainFault → Type 0
IsCause (ChainShape j) = Unit {0}
IsCause (LinkClash j) = Unit {0}
IsCause Memory = ⊥

no_chain_fault : (sites : List LegValue) (ts : List BlockedValue) (e : ChainFault) → IsCause e → IsFaultless State sites ts → IsChainFault State sites ts e → ⊥
no_chain_fault sites ts (ChainShape zero) a h p = p h.0.0
no_chain_fault sites ts (ChainShape (suc j)) a h p = p.1.here.1 (h.0.1 j p.1.here.0)
no_chain_fault sites ts (LinkClash zero) a h p = p
no_chain_fault sites ts (LinkClash (suc j)) a h p = p.1.here.1 (h.1 j p.1.here.0)
no_chain_fault sites ts Memory a h p = a

-- what is asked of a state, for a group, legs and tensors that are known to be these
pub record IsReady (fs : List Factor) (ls : List LegValue) (ts : List BlockedValue) : Type 0 where
  pub some : 0 < length ls
  pub few : length ls ≤ 64
  pub out : All (λ (l : LegValue). l.arrow ≡ Out) ls
  pub group : All (λ (t : BlockedValue). t.group ≡ fs) ts
  pub fluxes : All (λ (t : BlockedValue). IsWithin (2 ^ 41) fs t.flux) ts
  pub faultless : (e : ChainFault) → IsCause e → IsChainFault State ls ts e → ⊥

pub ready : (x n : ℕ) (fs : List Factor) (ls : List LegValue) (ts : List BlockedValue) → fs ≡ group → ls ≡ leg_list n → ts ≡ drawn_chain x n 0 (range_with_len 1 n) → 0 < n → n ≤ 32 → IsReady fs ls ts
ready x n fs ls ts p q r some few =
    let all = drawn_chain x n 0 (range_with_len 1 n) in
    let are : IsReady group (leg_list n) all = record {
      some = omega (arith, some, length_legs n);
      few = omega (arith, few, length_legs n);
      out = legs_out n;
      group = groups_are x n;
      fluxes = fluxes_are x n few;
      faultless = λ e a. no_chain_fault (leg_list n) all e a (faultless x n);
    } in
    subst (λ (gs : List Factor). IsReady gs ls ts) (sym p) (subst (λ (ks : List LegValue). IsReady group ks ts) (sym q) (subst (IsReady group (leg_list n)) (sym r) are))
