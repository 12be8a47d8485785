-- The sum over the links of the automaton, without signs.
use Rattle.std.proofs.Common.{◌≡◌, ℕ, zero, suc, ◌+◌, ◌<◌, ◌≤◌, Bool, true, false, cond, List, [], ◌∷◌, ◌++◌, length, refl, sym, ◌∙◌, ap, ap₂, arith}
use Rattle.qn_sign.specs.Sign.{is_in}
use Rattle.qn_gauss.specs.Gaussian.{Gaussian, zero_g, add_g, mul_g}
use Rattle.qn_gauss.proofs.Ring.{add_zero, mul_one}
use Rattle.qn_value.specs.Networks.{End, Node, Assignment, assign, sums, values, product}
use Rattle.qn_value.proofs.Sums.{label_test, sums-scale, IsSteady}
use Rattle.qn_value.proofs.BlockSums.{sum_below-congr}
use Rattle.qn_opsum.specs.Strings.{Sites, State, AreBelow, AreOrdered}
use Rattle.qn_auto.specs.Automaton.{Term, Stage, same_stage, stage, stages, stage_at, transition, entry_from}
use Rattle.qn_auto.specs.Automaton.Stage.{not_begun, rest, done}
use Rattle.qn_auto.proofs.Stages.{AllOf, sum_below-stages, stage_at-in, stages-distinct, all_stand, all_done, lead-in}
use Rattle.qn_braket.specs.ChainLabels.{own_link, own_upper, own_lower}
use Rattle.qn_braket.specs.Pieces.{Piece, chain, chain_links, operator_chain}
use Rattle.qn_braket.specs.OperatorSigns.{up, down}
use Rattle.qn_braket.proofs.OperatorSign.{own_apart}
use Rattle.qn_braket.proofs.Chained.{sums-keep}
use Rattle.qn_paths.specs.Paths.{automaton}
use Rattle.qn_paths.proofs.Transitions.{tail, Leads, step_sum}

all_both : {A : Type 0} (P Q : A → Type 0) (xs : List A) → AllOf P xs → AllOf Q xs → AllOf (λ x. P x × Q x) xs
all_both P Q [] p q = tt
all_both P Q (x ∷ xs) p q = ((p.0, q.0), all_both P Q xs p.1 q.1)

all_map : {A : Type 0} (P Q : A → Type 0) → ((x : A) → P x → Q x) → (xs : List A) → AllOf P xs → AllOf Q xs
all_map P Q h [] p = tt
all_map P Q h (x ∷ xs) p = (h x p.0, all_map P Q h xs p.1)

module _ (earlier : Stage → Stage → Bool) (S : Sites) (ws : List Term) (m : ℕ) where
  abbrev piece : ℕ → Piece
  piece = automaton earlier S ws m

  abbrev own : ℕ → List End
  own j = up own_upper j ∷ down (own_lower m) j ∷ []

  -- the legs right of site j and left of site j + 1
  abbrev into : ℕ → End
  into j = record { label = own_link j; inward = true }

  abbrev out : ℕ → End
  out j = record { label = own_link j; inward = false }

  -- the legs of site j but the one left, where k sites follow it
  abbrev site_ends : ℕ → ℕ → List End
  site_ends j zero = own j
  site_ends j (suc k) = own j ++ into j ∷ []

  -- the tensors of the k sites after site j
  abbrev later : ℕ → ℕ → List Node
  later j zero = []
  later j (suc k) = chain own own_link piece (out j ∷ []) (suc j) k

  later_product : (j k : ℕ) (c : Assignment) → product (later j (suc k)) c ≡
      mul_g (entry_from earlier S ws (suc j) (stage_at (stages earlier ws j) (c (out j))) (values (site_ends (suc j) k) c)) (product (later (suc j) k) c)
  later_product j zero c = refl
  later_product j (suc k) c = refl

  all_product : (k : ℕ) (c : Assignment) → product (operator_chain own_upper (own_lower m) own_link piece k) c ≡
      mul_g (entry_from earlier S ws 0 not_begun (values (site_ends 0 k) c)) (product (later 0 k) c)
  all_product zero c = refl
  all_product (suc k) c = refl

  steady_links : {X : Type 0} (c : Assignment → X) (i j k : ℕ) → i < j → ((l : ℕ) → i < l → (a : Assignment) (v : ℕ) → c (assign a (own_link l) v) ≡ c a) →
      IsSteady c (chain_links own_link piece j k)
  steady_links c i j zero b h = tt
  steady_links c i j (suc k) b h = ((λ a v. h j b a v), steady_links c i (suc j) k (more i j b) h)
    where
      more : (i j : ℕ) → i < j → i < suc j
      more i j b = omega arith

  -- the two states do not depend on the links

  abbrev pub uppers : Assignment → State
  uppers a k = a (up own_upper k)

  abbrev pub lowers : Assignment → State
  lowers a k = a (down (own_lower m) k)

  keep_link : (a : Assignment) (j k v : ℕ) → j < k → (b : Bool) → assign a (own_link k) v (record { label = own_link j; inward = b }) ≡ a (record { label = own_link j; inward = b })
  keep_link a j k v h b = ap (λ c. cond c v (a (record { label = own_link j; inward = b }))) ((own_apart m).links j k h)

  set_link : (a : Assignment) (j v : ℕ) (b : Bool) → assign a (own_link j) v (record { label = own_link j; inward = b }) ≡ v
  set_link a j v b = ap (λ c. cond c v (a (record { label = own_link j; inward = b }))) (label_test.itself (own_link j))

  abbrev Good : Term → Type 0
  Good w = AreOrdered w.factors × AreBelow (suc m) w.factors

  -- where a state leads, the link has a state
  abbrev LeadsOn : ℕ → Stage → Type 0
  LeadsOn j l = Leads S ws (λ k. 0) (λ k. 0) j 0 (stages earlier ws j) (stages-distinct earlier ws j) l

  leads_from : (j : ℕ) (l : Stage) → is_in same_stage l (stages earlier ws j) ≡ true → LeadsOn (suc j) l
  leads_from j not_begun h = tt
  leads_from j (rest fs) h = lead-in earlier (rest fs) ws j h refl
  leads_from j done h = lead-in earlier done ws j h refl

  module _ (good : AllOf Good ws) where
    last_site : (j : ℕ) (t s : State) (l : Stage) → j + 1 ≡ suc m → LeadsOn j l → transition S ws j l done (t j) (s j) ≡ tail S ws t s j 1 l
    last_site j t s l e h =
        sym (ap (λ x. add_g x zero_g) (mul_one (transition S ws j l done (t j) (s j))) ∙ add_zero (transition S ws j l done (t j) (s j)))
        ∙ step_sum S ws t s j 0 (done ∷ []) (refl, tt) l (at l h)
        (all_both (λ w. AreOrdered w.factors) (λ w. is_in same_stage (stage j w.factors) (done ∷ []) ≡ true) ws
        (all_map Good (λ w. AreOrdered w.factors) (λ w g. g.0) ws good)
        (all_map (λ w. is_in same_stage (stage j w.factors) (stages earlier ws j) ≡ true) (λ w. is_in same_stage (stage j w.factors) (done ∷ []) ≡ true)
        (λ w k. only_done (stage j w.factors) k) ws (all_stand earlier ws j)))
      where
        small : (j n : ℕ) → j + 1 ≡ n → n ≤ suc j
        small j n e = omega (arith, e)

        some : (m : ℕ) → 0 < suc m
        some m = omega arith

        only_done : (q : Stage) → is_in same_stage q (stages earlier ws j) ≡ true → is_in same_stage q (done ∷ []) ≡ true
        only_done q k = all_done earlier (suc m) j (small j (suc m) e) (some m) ws (all_map Good (λ w. AreBelow (suc m) w.factors) (λ w g. g.1) ws good) q k

        at : (l : Stage) → LeadsOn j l → Leads S ws t s j 0 (done ∷ []) (refl, tt) l
        at not_begun k = tt
        at (rest fs) k = only_done _ k
        at done k = refl

    -- the site j in state l, and the k sites after it
    site_sum : (k j : ℕ) (l : Stage) (a : Assignment) → j + suc k ≡ suc m → LeadsOn j l →
        sums (chain_links own_link piece j k) (λ c. mul_g (entry_from earlier S ws j l (values (site_ends j k) c)) (product (later j k) c)) a ≡
        tail S ws (uppers a) (lowers a) j (suc k) l
    site_sum zero j l a e h =
        mul_one (transition S ws j l done (a (up own_upper j)) (a (down (own_lower m) j)))
        ∙ last_site j (uppers a) (lowers a) l e h
    site_sum (suc k) j l a e h =
        (λ i. sums (chain_links own_link piece j (suc k)) (λ c. mul_g (here c) (later_product j k c i)) a)
        ∙ sum_below-congr (length (stages earlier ws j)) _ (λ v. mul_g (transition S ws j l (stage_at (stages earlier ws j) v) (uppers a j) (lowers a j)) (tail S ws (uppers a) (lowers a) (suc j) (suc k) (stage_at (stages earlier ws j) v)))
        (λ v b. at v (site_sum k (suc j) (stage_at (stages earlier ws j) v) (assign a (own_link j) v) (move j k m e)
        (leads_from j (stage_at (stages earlier ws j) v) (stage_at-in (stages earlier ws j) v b))))
        ∙ sum_below-stages (λ r. mul_g (transition S ws j l r (uppers a j) (lowers a j)) (tail S ws (uppers a) (lowers a) (suc j) (suc k) r)) (stages earlier ws j)
        ∙ step_sum S ws (uppers a) (lowers a) j (suc k) (stages earlier ws j) (stages-distinct earlier ws j) l (again l h)
        (all_both (λ w. AreOrdered w.factors) (λ w. is_in same_stage (stage j w.factors) (stages earlier ws j) ≡ true) ws
        (all_map Good (λ w. AreOrdered w.factors) (λ w g. g.0) ws good) (all_stand earlier ws j))
      where
        move : (j k m : ℕ) → j + suc (suc k) ≡ suc m → suc j + suc k ≡ suc m
        move j k m e = omega (arith, e)

        beside : (j : ℕ) → j < suc j
        beside j = omega arith

        again : (l : Stage) → LeadsOn j l → Leads S ws (uppers a) (lowers a) j (suc k) (stages earlier ws j) (stages-distinct earlier ws j) l
        again not_begun h = tt
        again (rest fs) h = h
        again done h = h

        here : Assignment → Gaussian
        here c = transition S ws j l (stage_at (stages earlier ws j) (c (into j))) (uppers c j) (lowers c j)

        beyond : ℕ → Assignment → Gaussian
        beyond q c = mul_g (entry_from earlier S ws (suc j) (stage_at (stages earlier ws j) q) (values (site_ends (suc j) k) c)) (product (later (suc j) k) c)

        here_steady : IsSteady here (chain_links own_link piece (suc j) k)
        here_steady = steady_links here j (suc j) k (beside j)
            (λ i b c v. ap (λ q. transition S ws j l (stage_at (stages earlier ws j) q) (uppers c j) (lowers c j)) (keep_link c j i v b true))

        link_steady : IsSteady (λ c. c (out j)) (chain_links own_link piece (suc j) k)
        link_steady = steady_links (λ c. c (out j)) j (suc j) k (beside j) (λ i b c v. keep_link c j i v b false)

        at : (v : ℕ) →
            sums (chain_links own_link piece (suc j) k) (beyond v) (assign a (own_link j) v) ≡
            tail S ws (uppers a) (lowers a) (suc j) (suc k) (stage_at (stages earlier ws j) v) →
            sums (chain_links own_link piece (suc j) k) (λ c. mul_g (here c) (beyond (c (out j)) c)) (assign a (own_link j) v) ≡
            mul_g (transition S ws j l (stage_at (stages earlier ws j) v) (uppers a j) (lowers a j)) (tail S ws (uppers a) (lowers a) (suc j) (suc k) (stage_at (stages earlier ws j) v))
        at v ih =
            sums-scale (chain_links own_link piece (suc j) k) here (λ c. beyond (c (out j)) c) here_steady (assign a (own_link j) v)
            ∙ ap₂ mul_g
            (ap (λ q. transition S ws j l (stage_at (stages earlier ws j) q) (uppers a j) (lowers a j)) (set_link a j v true))
            (sums-keep (chain_links own_link piece (suc j) k) (λ c. c (out j)) link_steady beyond (assign a (own_link j) v)
            ∙ ap (λ q. sums (chain_links own_link piece (suc j) k) (beyond q) (assign a (own_link j) v)) (set_link a j v false)
            ∙ ih)

    pub network_sum : (a : Assignment) →
        sums (chain_links own_link piece 0 m) (product (operator_chain own_upper (own_lower m) own_link piece m)) a ≡ tail S ws (uppers a) (lowers a) 0 (suc m) not_begun
    network_sum a = (λ i. sums (chain_links own_link piece 0 m) (λ c. all_product m c i) a) ∙ site_sum m 0 not_begun a (all m) tt
      where
        all : (m : ℕ) → 0 + suc m ≡ suc m
        all m = omega arith
