-- The steps at the labels of a site: the bra's tensor comes to what the sites before have together, then the operator's, then the ket's.
use Rattle.std.proofs.Common.{◌≡◌, ℕ, zero, suc, ◌+◌, ◌*◌, ◌<◌, ◌≤◌, ℤ, pos, Bool, true, false, ◌||◌, ◌&&◌, not, List, [], ◌∷◌, ◌++◌, append_assoc, refl, ◌∙◌, ap, ap₂, int_eq, arith}
use Rattle.std.specs.Prelude.{nat_lt}
use Rattle.std.proofs.lemmas.Bool.Decides.{nat_tests}
use Rattle.qn_sign.specs.Sign.{is_in}
use Rattle.qn_sign.proofs.Order.{is_in-append}
use Rattle.qn_sign.proofs.Members.{is_in-filter}
use Rattle.qn_value.specs.Networks.{Bond, Parities, same_end, labels, odd_flux}
use Rattle.qn_value.proofs.NetLaws.{end_test}
use Rattle.qn_net.specs.Groups.{TensorGroup, nodes, joined}
use Rattle.qn_net.specs.Groups.Role.{tensor}
use Rattle.qn_net.specs.Steps.{Step, after, carry}
use Rattle.qn_net.specs.Steps.Step.{pair}
use Rattle.qn_net.specs.Plans.{has_end, has_label, select, shared, plan, NoneHave}
use Rattle.qn_net.proofs.PlanFind.{taken_none, taken_pair, select_is}
use Rattle.qn_replace.specs.Touching.{have_tensor, touches}
use Rattle.qn_replace.proofs.AlikeGroups.{have-merged}
use Rattle.qn_sweep.proofs.Profiles.{bra_has, op_has, ket_has, link_has, from, second_has, third_has, second_left, third_left, both, less, first_both, first_less, second_both, second_less, third_both, third_less, bra_first, op_first, ket_first, met_first, start_both, start_less, next_both, next_less}

-- the label with the number y
abbrev pub lab : ℕ → ℤ
lab y = pos (suc y)

-- in the order from the last to the first
abbrev pub turned : List TensorGroup → List TensorGroup
turned [] = []
turned (g ∷ gs) = turned gs ++ (g ∷ [])

-- labels of two groups together

end_joined : (par : Parities) (b : Bool) (g h : TensorGroup) (bonds : List Bond) (l : ℤ) (i : Bool) →
    has_end l i (joined par b g h bonds) ≡ (not (is_in int_eq l (labels bonds)) && (has_end l i g || has_end l i h))
end_joined par b g h bonds l i =
    is_in-filter same_end end_test (λ e. not (is_in int_eq e.label (labels bonds))) (record { label = l; inward = i }) (g.node.ends ++ (h.node.ends ++ []))
    ∙ ap (λ t. not (is_in int_eq l (labels bonds)) && t)
    (is_in-append same_end (record { label = l; inward = i }) g.node.ends (h.node.ends ++ [])
    ∙ ap (λ t. has_end l i g || t) (is_in-append same_end (record { label = l; inward = i }) h.node.ends [] ∙ or_none (has_end l i h)))
  where
    or_none : (t : Bool) → (t || false) ≡ t
    or_none t = grind arith

joined_has : (par : Parities) (b : Bool) (g h : TensorGroup) (left : List Bond) (l : ℤ) (bg bh bl : Bool) → has_label l g ≡ bg → has_label l h ≡ bh → is_in int_eq l (labels left) ≡ bl →
    has_label l (joined par b g h (select (shared g h) left)) ≡ both bg bh bl
joined_has par b g h left l bg bh bl eg eh el =
    ap₂ ◌||◌ (end_joined par b g h (select (shared g h) left) l true) (end_joined par b g h (select (shared g h) left) l false)
    ∙ spread (is_in int_eq l (labels (select (shared g h) left))) (has_end l true g) (has_end l true h) (has_end l false g) (has_end l false h)
    ∙ ap (λ t. (has_label l g || has_label l h) && not t) (select_is (shared g h) left l)
    ∙ (λ i. both (eg i) (eh i) (el i))
  where
    spread : (t p q r s : Bool) → ((not t && (p || q)) || (not t && (r || s))) ≡ (((p || r) || (q || s)) && not t)
    spread t p q r s = grind arith

left_has : (g h : TensorGroup) (left : List Bond) (l : ℤ) (bg bh bl : Bool) → has_label l g ≡ bg → has_label l h ≡ bh → is_in int_eq l (labels left) ≡ bl →
    is_in int_eq l (labels (select (λ k. not (shared g h k)) left)) ≡ less bg bh bl
left_has g h left l bg bh bl eg eh el = select_is (λ k. not (shared g h k)) left l ∙ (λ i. less (eg i) (eh i) (el i))

-- a label at which two groups are brought together, and one that is passed over

module _ (par : Parities) where
  pair_at : (l : ℤ) (ls : List ℤ) (left : List Bond) (before : List TensorGroup) (g : TensorGroup) (between : List TensorGroup) (h : TensorGroup) (behind : List TensorGroup) →
      is_in int_eq l (labels left) ≡ true → NoneHave l before → has_label l g ≡ true → NoneHave l between → has_label l h ≡ true →
      plan par (l ∷ ls) (record { groups = before ++ (g ∷ (between ++ (h ∷ behind))); left = left }) ≡
      pair before g between h behind (select (shared g h) left) (select (λ k. not (shared g h k)) left)
      ∷ plan par ls (after par (pair before g between h behind (select (shared g h) left) (select (λ k. not (shared g h k)) left)))
  pair_at l ls left before g between h behind e nb hg nn hh =
      ap (λ ts. ts ++ plan par ls (carry par ts (record { groups = before ++ (g ∷ (between ++ (h ∷ behind))); left = left })))
      (taken_pair l left before g between h behind e nb hg nn hh)

  pass_at : (l : ℤ) (ls : List ℤ) (left : List Bond) (groups : List TensorGroup) → is_in int_eq l (labels left) ≡ false →
      plan par (l ∷ ls) (record { groups = groups; left = left }) ≡ plan par ls (record { groups = groups; left = left })
  pass_at l ls left groups e = ap (λ ts. ts ++ plan par ls (carry par ts (record { groups = groups; left = left }))) (taken_none l left groups e)

-- the tensors of sites, one after another

pub record IsSite (p q : ℕ) (c o k : TensorGroup) : Type 0 where
  pub bra : (y : ℕ) → has_label (lab y) c ≡ bra_has p q y
  pub op : (y : ℕ) → has_label (lab y) o ≡ op_has p q y
  pub ket : (y : ℕ) → has_label (lab y) k ≡ ket_has p q y

abbrev pub AreSites : ℕ → ℕ → List TensorGroup → List TensorGroup → List TensorGroup → Type 0
AreSites p q [] [] [] = p ≡ q
AreSites p q [] [] (k ∷ ks) = ⊥
AreSites p q [] (o ∷ os) ks = ⊥
AreSites p q (c ∷ cs) [] ks = ⊥
AreSites p q (c ∷ cs) (o ∷ os) [] = ⊥
AreSites p q (c ∷ cs) (o ∷ os) (k ∷ ks) = IsSite p q c o k × AreSites (p + 5) q cs os ks

-- later sites have no earlier labels
record AllLater (y : ℕ) (cs os ks : List TensorGroup) : Type 0 where
  bras : NoneHave (lab y) cs
  ops : NoneHave (lab y) os
  kets : NoneHave (lab y) ks

later : (p q y : ℕ) (cs os ks : List TensorGroup) → AreSites p q cs os ks → y < p → AllLater y cs os ks
later p q y [] [] [] h lt = record { bras = tt; ops = tt; kets = tt }
later p q y [] [] (k ∷ ks) h lt = absurd h
later p q y [] (o ∷ os) ks h lt = absurd h
later p q y (c ∷ cs) [] ks h lt = absurd h
later p q y (c ∷ cs) (o ∷ os) [] h lt = absurd h
later p q y (c ∷ cs) (o ∷ os) (k ∷ ks) h lt =
    let r = later (p + 5) q y cs os ks h.1 (omega (arith, lt)) in
    record { bras = (h.0.bra y ∙ no_bra p q y lt, r.bras); ops = (h.0.op y ∙ no_op p q y lt, r.ops); kets = (h.0.ket y ∙ no_ket p q y lt, r.kets) }
  where
    no_bra : (p q y : ℕ) → y < p → bra_has p q y ≡ false
    no_bra p q y lt = grind (arith, nat_tests)

    no_op : (p q y : ℕ) → y < p → op_has p q y ≡ false
    no_op p q y lt = grind (arith, nat_tests)

    no_ket : (p q y : ℕ) → y < p → ket_has p q y ≡ false
    no_ket p q y lt = grind (arith, nat_tests)

none-append : (l : ℤ) (gs hs : List TensorGroup) → NoneHave l gs → NoneHave l hs → NoneHave l (gs ++ hs)
none-append l [] hs h k = k
none-append l (g ∷ gs) hs h k = (h.0, none-append l gs hs h.1 k)

none-turned : (l : ℤ) (gs : List TensorGroup) → NoneHave l gs → NoneHave l (turned gs)
none-turned l [] h = tt
none-turned l (g ∷ gs) h = none-append l (turned gs) (g ∷ []) (none-turned l gs h.1) (h.0, tt)

more_room : (p q : ℕ) (cs os ks : List TensorGroup) → AreSites p q cs os ks → p ≤ q
more_room p q [] [] [] h = omega (arith, h)
more_room p q [] [] (k ∷ ks) h = absurd h
more_room p q [] (o ∷ os) ks h = absurd h
more_room p q (c ∷ cs) [] ks h = absurd h
more_room p q (c ∷ cs) (o ∷ os) [] h = absurd h
more_room p q (c ∷ cs) (o ∷ os) (k ∷ ks) h = let r = more_room (p + 5) q cs os ks h.1 in omega (arith, r)

-- what a step does with tensors, whatever they are tested for

-- three groups that come to what is there, by the three steps of a site
pub record IsSiteDone (par : Parities) (g c o k : TensorGroup) (cs os ks : List TensorGroup) (h : TensorGroup) (first second third : Step) : Type 0 where
  pub one : (test : ℕ → Bool) → touches test first ≡ (have_tensor test c.members || have_tensor test g.members)
  pub two : (test : ℕ → Bool) → touches test second ≡ ((have_tensor test c.members || have_tensor test g.members) || have_tensor test o.members)
  pub three : (test : ℕ → Bool) → touches test third ≡ (((have_tensor test c.members || have_tensor test g.members) || have_tensor test o.members) || have_tensor test k.members)
  pub made : (test : ℕ → Bool) → have_tensor test h.members ≡ (((have_tensor test c.members || have_tensor test g.members) || have_tensor test o.members) || have_tensor test k.members)
  pub groups : (after par third).groups ≡ turned cs ++ (h ∷ (os ++ ks))
  pub role : h.role ≡ tensor

-- the steps that take the sites one after another
abbrev pub AreTaken : Parities → TensorGroup → List TensorGroup → List TensorGroup → List TensorGroup → List Step → Type 0
AreTaken par g [] [] [] ts = ts ≡ []
AreTaken par g [] [] (k ∷ ks) ts = ⊥
AreTaken par g [] (o ∷ os) ks ts = ⊥
AreTaken par g (c ∷ cs) [] ks ts = ⊥
AreTaken par g (c ∷ cs) (o ∷ os) [] ts = ⊥
AreTaken par g (c ∷ cs) (o ∷ os) (k ∷ ks) ts =
    (h : TensorGroup) × (first : Step) × (second : Step) × (third : Step) × (rest : List Step) × IsSiteDone par g c o k cs os ks h first second third
    × (ts ≡ first ∷ second ∷ third ∷ rest) × AreTaken par h cs os ks rest

-- the labels of m sites from the number p on, the links left of a site first
abbrev pub run : ℕ → ℕ → List ℤ
run p zero = []
run p (suc m) = lab p ∷ lab (p + 1) ∷ lab (p + 2) ∷ lab (p + 3) ∷ lab (p + 4) ∷ run (p + 5) m

or_false : (t : Bool) → (t || false) ≡ t
or_false t = grind arith

site_taken : (par : Parities) (p q : ℕ) (g : TensorGroup) (cs os ks : List TensorGroup) (left : List Bond) → AreSites p q cs os ks → ((y : ℕ) → has_label (lab y) g ≡ link_has p q y) →
    ((y : ℕ) → is_in int_eq (lab y) (labels left) ≡ from p q y) → (m : ℕ) → q ≡ p + 5 * m →
    AreTaken par g cs os ks (plan par (run p m) (record { groups = turned cs ++ (g ∷ (os ++ ks)); left = left }))
site_taken par p q g [] [] [] left s hg hl zero e = refl
site_taken par p q g [] [] [] left s hg hl (suc m) e = absurd (omega (arith, s, e))
site_taken par p q g [] [] (k ∷ ks) left s hg hl m e = absurd s
site_taken par p q g [] (o ∷ os) ks left s hg hl m e = absurd s
site_taken par p q g (c ∷ cs) [] ks left s hg hl m e = absurd s
site_taken par p q g (c ∷ cs) (o ∷ os) [] left s hg hl m e = absurd s
site_taken par p q g (c ∷ cs) (o ∷ os) (k ∷ ks) left s hg hl zero e = let r = more_room (p + 5) q cs os ks s.1 in absurd (omega (arith, r, e))
site_taken par p q g (c ∷ cs) (o ∷ os) (k ∷ ks) left s hg hl (suc m) e = (
  g3,
  t1,
  t2,
  t3,
  plan par (run (p + 5) m) (record { groups = turned cs ++ (g3 ∷ (os ++ ks)); left = left3 }),
  record {
    one = λ test. ap (λ b. have_tensor test c.members || b) (or_false (have_tensor test g.members));
    two = λ test. ap₂ ◌||◌ (tests1 test) (or_false (have_tensor test o.members));
    three = λ test. ap₂ ◌||◌ (tests2 test) (or_false (have_tensor test k.members));
    made = λ test. have-merged test g2.members k.members ∙ ap (λ b. b || have_tensor test k.members) (tests2 test);
    groups = refl;
    role = refl;
  },
  walked,
  site_taken par (p + 5) q g3 cs os ks left3 s.1 has3 in3 m (omega (arith, e)),
)
  where
    room : p + 5 ≤ q
    room = more_room (p + 5) q cs os ks s.1

    left1 : List Bond
    left1 = select (λ x. not (shared c g x)) left

    g1 : TensorGroup
    g1 = joined par false c g (select (shared c g) left)

    t1 : Step
    t1 = pair (turned cs) c [] g ((o ∷ os) ++ (k ∷ ks)) (select (shared c g) left) left1

    g2 : TensorGroup
    g2 = joined par false g1 o (select (shared g1 o) left1)

    left2 : List Bond
    left2 = select (λ x. not (shared g1 o x)) left1

    t2 : Step
    t2 = pair (turned cs) g1 [] o (os ++ (k ∷ ks)) (select (shared g1 o) left1) left2

    g3 : TensorGroup
    g3 = joined par (odd_flux (nodes os)) g2 k (select (shared g2 k) left2)

    left3 : List Bond
    left3 = select (λ x. not (shared g2 k x)) left2

    t3 : Step
    t3 = pair (turned cs) g2 os k ks (select (shared g2 k) left2) left3

    tests1 : (test : ℕ → Bool) → have_tensor test g1.members ≡ (have_tensor test c.members || have_tensor test g.members)
    tests1 test = have-merged test c.members g.members

    tests2 : (test : ℕ → Bool) → have_tensor test g2.members ≡ ((have_tensor test c.members || have_tensor test g.members) || have_tensor test o.members)
    tests2 test = have-merged test g1.members o.members ∙ ap (λ b. b || have_tensor test o.members) (tests1 test)

    has1 : (y : ℕ) → has_label (lab y) g1 ≡ second_has p q y
    has1 y = joined_has par false c g left (lab y) (bra_has p q y) (link_has p q y) (from p q y) (s.0.bra y) (hg y) (hl y) ∙ first_both p q room y

    in1 : (y : ℕ) → is_in int_eq (lab y) (labels left1) ≡ second_left p q y
    in1 y = left_has c g left (lab y) (bra_has p q y) (link_has p q y) (from p q y) (s.0.bra y) (hg y) (hl y) ∙ first_less p q room y

    has2 : (y : ℕ) → has_label (lab y) g2 ≡ third_has p q y
    has2 y = joined_has par false g1 o left1 (lab y) (second_has p q y) (op_has p q y) (second_left p q y) (has1 y) (s.0.op y) (in1 y) ∙ second_both p q room y

    in2 : (y : ℕ) → is_in int_eq (lab y) (labels left2) ≡ third_left p q y
    in2 y = left_has g1 o left1 (lab y) (second_has p q y) (op_has p q y) (second_left p q y) (has1 y) (s.0.op y) (in1 y) ∙ second_less p q room y

    has3 : (y : ℕ) → has_label (lab y) g3 ≡ link_has (p + 5) q y
    has3 y = joined_has par (odd_flux (nodes os)) g2 k left2 (lab y) (third_has p q y) (ket_has p q y) (third_left p q y) (has2 y) (s.0.ket y) (in2 y) ∙ third_both p q room y

    in3 : (y : ℕ) → is_in int_eq (lab y) (labels left3) ≡ from (p + 5) q y
    in3 y = left_has g2 k left2 (lab y) (third_has p q y) (ket_has p q y) (third_left p q y) (has2 y) (s.0.ket y) (in2 y) ∙ third_less p q room y

    behind : (y : ℕ) → y < p + 5 → AllLater y cs os ks
    behind y lt = later (p + 5) q y cs os ks s.1 lt

    -- numbers
    at : (p q : ℕ) → p + 5 ≤ q →
        (from p q p ≡ true) × (bra_has p q p ≡ true) × (link_has p q p ≡ true)
        × (second_left p q (p + 1) ≡ true) × (second_has p q (p + 1) ≡ true) × (op_has p q (p + 1) ≡ true)
        × (third_left p q (p + 2) ≡ true) × (third_has p q (p + 2) ≡ true) × (ket_has p q (p + 2) ≡ true)
        × (from (p + 5) q (p + 3) ≡ false) × (from (p + 5) q (p + 4) ≡ false)
    at p q h = (
      grind (arith, nat_tests),
      grind (arith, nat_tests),
      grind (arith, nat_tests),
      grind (arith, nat_tests),
      grind (arith, nat_tests),
      grind (arith, nat_tests),
      grind (arith, nat_tests),
      grind (arith, nat_tests),
      grind (arith, nat_tests),
      grind (arith, nat_tests),
      grind (arith, nat_tests),
    )

    walked : plan par (run p (suc m)) (record { groups = turned (c ∷ cs) ++ (g ∷ ((o ∷ os) ++ (k ∷ ks))); left = left }) ≡
        t1 ∷ t2 ∷ t3 ∷ plan par (run (p + 5) m) (record { groups = turned cs ++ (g3 ∷ (os ++ ks)); left = left3 })
    walked =
        let n = at p q room in
        ap (λ gs. plan par (run p (suc m)) (record { groups = gs; left = left })) (append_assoc (turned cs) (c ∷ []) (g ∷ ((o ∷ os) ++ (k ∷ ks))))
        ∙ pair_at par (lab p) (lab (p + 1) ∷ lab (p + 2) ∷ lab (p + 3) ∷ lab (p + 4) ∷ run (p + 5) m) left (turned cs) c [] g ((o ∷ os) ++ (k ∷ ks))
        (hl p ∙ n.0) (none-turned (lab p) cs (behind p (omega arith)).bras) (s.0.bra p ∙ n.1) tt (hg p ∙ n.2)
        ∙ ap (λ ts. t1 ∷ ts)
        (pair_at par (lab (p + 1)) (lab (p + 2) ∷ lab (p + 3) ∷ lab (p + 4) ∷ run (p + 5) m) left1 (turned cs) g1 [] o (os ++ (k ∷ ks))
        (in1 (p + 1) ∙ n.3) (none-turned (lab (p + 1)) cs (behind (p + 1) (omega arith)).bras) (has1 (p + 1) ∙ n.4) tt (s.0.op (p + 1) ∙ n.5)
        ∙ ap (λ ts. t2 ∷ ts)
        (pair_at par (lab (p + 2)) (lab (p + 3) ∷ lab (p + 4) ∷ run (p + 5) m) left2 (turned cs) g2 os k ks
        (in2 (p + 2) ∙ n.6) (none-turned (lab (p + 2)) cs (behind (p + 2) (omega arith)).bras) (has2 (p + 2) ∙ n.7) (behind (p + 2) (omega arith)).ops (s.0.ket (p + 2) ∙ n.8)
        ∙ ap (λ ts. t3 ∷ ts)
        (pass_at par (lab (p + 3)) (lab (p + 4) ∷ run (p + 5) m) left3 (turned cs ++ (g3 ∷ (os ++ ks))) (in3 (p + 3) ∙ n.9)
        ∙ pass_at par (lab (p + 4)) (run (p + 5) m) left3 (turned cs ++ (g3 ∷ (os ++ ks))) (in3 (p + 4) ∙ n.10))))

-- the first site

pub record IsFirstSite (q : ℕ) (c o k : TensorGroup) : Type 0 where
  pub bra : (y : ℕ) → has_label (lab y) c ≡ bra_first q y
  pub op : (y : ℕ) → has_label (lab y) o ≡ op_first q y
  pub ket : (y : ℕ) → has_label (lab y) k ≡ ket_first q y

-- the two steps of the first site, and then those of the others
pub record AreSwept (par : Parities) (c o k : TensorGroup) (cs os ks : List TensorGroup) (ts : List Step) : Type 0 where
  pub made : TensorGroup
  pub first : Step
  pub second : Step
  pub rest : List Step
  pub whole : ts ≡ first ∷ second ∷ rest
  pub one : (test : ℕ → Bool) → touches test first ≡ (have_tensor test c.members || have_tensor test o.members)
  pub two : (test : ℕ → Bool) → touches test second ≡ ((have_tensor test c.members || have_tensor test o.members) || have_tensor test k.members)
  pub tests : (test : ℕ → Bool) → have_tensor test made.members ≡ ((have_tensor test c.members || have_tensor test o.members) || have_tensor test k.members)
  pub groups : (after par second).groups ≡ turned cs ++ (made ∷ (os ++ ks))
  pub role : made.role ≡ tensor
  pub others : AreTaken par made cs os ks rest

pub all_taken : (par : Parities) (q : ℕ) (c o k : TensorGroup) (cs os ks : List TensorGroup) (left : List Bond) → IsFirstSite q c o k → AreSites 2 q cs os ks →
    ((y : ℕ) → is_in int_eq (lab y) (labels left) ≡ nat_lt y q) → (m : ℕ) → q ≡ 2 + 5 * m →
    AreSwept par c o k cs os ks (plan par (lab 0 ∷ lab 1 ∷ run 2 m) (record { groups = turned (c ∷ cs) ++ ((o ∷ os) ++ (k ∷ ks)); left = left }))
all_taken par q c o k cs os ks left s others hl m e = record {
  made = g2;
  first = t1;
  second = t2;
  rest = plan par (run 2 m) (record { groups = turned cs ++ (g2 ∷ (os ++ ks)); left = left2 });
  whole = walked;
  one = λ test. ap (λ b. have_tensor test c.members || b) (or_false (have_tensor test o.members));
  two = λ test. ap₂ ◌||◌ (tests1 test) (or_false (have_tensor test k.members));
  tests = λ test. have-merged test g1.members k.members ∙ ap (λ b. b || have_tensor test k.members) (tests1 test);
  groups = refl;
  role = refl;
  others = site_taken par 2 q g2 cs os ks left2 others has2 in2 m e;
}
  where
    room : 2 ≤ q
    room = omega (arith, e)

    left1 : List Bond
    left1 = select (λ x. not (shared c o x)) left

    g1 : TensorGroup
    g1 = joined par false c o (select (shared c o) left)

    t1 : Step
    t1 = pair (turned cs) c [] o (os ++ (k ∷ ks)) (select (shared c o) left) left1

    g2 : TensorGroup
    g2 = joined par (odd_flux (nodes os)) g1 k (select (shared g1 k) left1)

    left2 : List Bond
    left2 = select (λ x. not (shared g1 k x)) left1

    t2 : Step
    t2 = pair (turned cs) g1 os k ks (select (shared g1 k) left1) left2

    tests1 : (test : ℕ → Bool) → have_tensor test g1.members ≡ (have_tensor test c.members || have_tensor test o.members)
    tests1 test = have-merged test c.members o.members

    has1 : (y : ℕ) → has_label (lab y) g1 ≡ met_first q y
    has1 y = joined_has par false c o left (lab y) (bra_first q y) (op_first q y) (nat_lt y q) (s.bra y) (s.op y) (hl y) ∙ start_both q room y

    in1 : (y : ℕ) → is_in int_eq (lab y) (labels left1) ≡ from 1 q y
    in1 y = left_has c o left (lab y) (bra_first q y) (op_first q y) (nat_lt y q) (s.bra y) (s.op y) (hl y) ∙ start_less q room y

    has2 : (y : ℕ) → has_label (lab y) g2 ≡ link_has 2 q y
    has2 y = joined_has par (odd_flux (nodes os)) g1 k left1 (lab y) (met_first q y) (ket_first q y) (from 1 q y) (has1 y) (s.ket y) (in1 y) ∙ next_both q room y

    in2 : (y : ℕ) → is_in int_eq (lab y) (labels left2) ≡ from 2 q y
    in2 y = left_has g1 k left1 (lab y) (met_first q y) (ket_first q y) (from 1 q y) (has1 y) (s.ket y) (in1 y) ∙ next_less q room y

    behind : (y : ℕ) → y < 2 → AllLater y cs os ks
    behind y lt = later 2 q y cs os ks others lt

    at : (q : ℕ) → 2 ≤ q → (nat_lt 0 q ≡ true) × (bra_first q 0 ≡ true) × (op_first q 0 ≡ true) × (from 1 q 1 ≡ true) × (met_first q 1 ≡ true) × (ket_first q 1 ≡ true)
    at q h = (grind (arith, nat_tests), grind (arith, nat_tests), grind (arith, nat_tests), grind (arith, nat_tests), grind (arith, nat_tests), grind (arith, nat_tests))

    walked : plan par (lab 0 ∷ lab 1 ∷ run 2 m) (record { groups = turned (c ∷ cs) ++ ((o ∷ os) ++ (k ∷ ks)); left = left }) ≡
        t1 ∷ t2 ∷ plan par (run 2 m) (record { groups = turned cs ++ (g2 ∷ (os ++ ks)); left = left2 })
    walked =
        let n = at q room in
        ap (λ gs. plan par (lab 0 ∷ lab 1 ∷ run 2 m) (record { groups = gs; left = left })) (append_assoc (turned cs) (c ∷ []) ((o ∷ os) ++ (k ∷ ks)))
        ∙ pair_at par (lab 0) (lab 1 ∷ run 2 m) left (turned cs) c [] o (os ++ (k ∷ ks))
        (hl 0 ∙ n.0) (none-turned (lab 0) cs (behind 0 (omega arith)).bras) (s.bra 0 ∙ n.1) tt (s.op 0 ∙ n.2)
        ∙ ap (λ ts. t1 ∷ ts)
        (pair_at par (lab 1) (run 2 m) left1 (turned cs) g1 os k ks
        (in1 1 ∙ n.3) (none-turned (lab 1) cs (behind 1 (omega arith)).bras) (has1 1 ∙ n.4) (behind 1 (omega arith)).ops (s.ket 1 ∙ n.5))
