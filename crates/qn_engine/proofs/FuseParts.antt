-- A pair step that fuses or splits, of which one part is the table.
use Rattle.std.proofs.Common.{◌≡◌, ℕ, ℤ, Bool, true, false, not, cond, List, [], ◌∷◌, ◌++◌, refl, sym, ◌∙◌, ap, ap₂, subst, subst₂, map, filter, int_eq, ◌||◌, if◌then◌else◌, ◌⊎◌, inl, inr}
use Rattle.std.proofs.lemmas.Bool.{false≢true}
use Rattle.std.proofs.lemmas.List.Elements.{filter-append}
use Rattle.qn_sign.specs.Sign.{is_in}
use Rattle.qn_charge.specs.Laws.{parity_of_zero}
use Rattle.qn_index.specs.Extents.{IsWithinLimits}
use Rattle.qn_value.specs.Networks.{End, Node, Bond, Parities, labels}
use Rattle.qn_value.specs.Twists.{untwist}
use Rattle.qn_value.specs.Blocks.{legs_on}
use Rattle.qn_value.specs.Fluxes.{sum_flux}
use Rattle.qn_value.proofs.TwistLemmas.{labels-untwist}
use Rattle.qn_value.specs.Tensors.{IsTensor}
use Rattle.qn_block.specs.Blocked.{BlockedValue, tensor_of}
use Rattle.qn_block.specs.Combiners.{CombinerValue}
use Rattle.qn_block.specs.Tables.{fuse_tensor, split_tensor}
use Rattle.qn_net.specs.Groups.{Listed, TensorGroup, flux_of}
use Rattle.qn_net.specs.Groups.Role.{fuse_table, split_table}
use Rattle.qn_net.specs.Steps.{Step, result, fuses, meets_condition, written, IsStepAt}
use Rattle.qn_net.specs.Steps.Kind.{pair_step, fuse_step}
use Rattle.qn_net.specs.Steps.Step.{pair, trace}
use Rattle.qn_net.specs.Members.{MemberValue, member_tensor, role_of}
use Rattle.qn_net.specs.Members.MemberValue.{own}
use Rattle.qn_net.specs.NetworkValues.{NetworkValue, parities, sectors, opens}
use Rattle.qn_net.specs.Operations.{IsTensorOf, AreTwistedLines}
use Rattle.qn_net.specs.TwistedSteps.{twisted_where, plain_step, found_by, IsLikeStep, PlainStepLaw}
use Rattle.qn_net.proofs.PlainSteps.{plain_lines}
use Rattle.qn_net.proofs.StepTensors.{lines_perm, lines_first}
use Rattle.qn_net.proofs.StepLaws.{moved_to}
use Rattle.qn_net.specs.Passing.{takes, sums_over, result_legs}
use Rattle.qn_plan.specs.Reached.{IsFitting}
use Rattle.qn_engine.specs.declared.part.Table.{Table}
use Rattle.qn_engine.specs.declared.part.Table.TheVariants.{Fuse, Split}
use Rattle.qn_engine.specs.Fusing.{PairAt, FusionValue, earlier, later, role, IsFusion, IsFused}
use Rattle.qn_engine.specs.Labels.{labels_without}
use Rattle.qn_engine.specs.Parts.{PartValue, placed_part, ArePartsOf, IsPartOf, table_value, combiner_of, is_fuse_table, is_odd_tensor}
use Rattle.qn_engine.specs.Carrying.{step_at, state_at, is_odd_between, IsPairAt, IsMadeAt}
use Rattle.qn_engine.proofs.TwistedParts.{twisted_one}
use Rattle.qn_engine.proofs.Making.{IsTwistedPart}

-- the step as one that fuses or splits, and what comes of it
pub record FuseFacts (net : NetworkValue) (n : ℕ) (p q : PartValue) (summed : List ℤ) (f : FusionValue) : Type 0 where
  pub place : PairAt
  pub fusion : IsFusion f place
  pub made_of : (r : BlockedValue) (m : ℕ) (ls : List ℤ) → m ≡ p.number → ls ≡ labels_without summed p.labels ++ labels_without summed q.labels → IsFused f place r →
      IsMadeAt net n (record { number = m; member = own r; labels = ls })

-- a group that is twisted, as a table

same_role : (b : Bool) (par : Parities) (bonds : List Bond) (g : TensorGroup) → (twisted_where b par bonds g).role ≡ g.role
same_role true par bonds g = refl
same_role false par bonds g = refl

same_fuses : (b : Bool) (par : Parities) (bonds : List Bond) (g : TensorGroup) → fuses (twisted_where b par bonds g) (map untwist bonds) ≡ fuses g bonds
same_fuses true par bonds g = ap (meets_condition g.role (map (λ (e : End). e.label) g.node.ends)) (labels-untwist bonds)
same_fuses false par bonds g = ap (meets_condition g.role (map (λ (e : End). e.label) g.node.ends)) (labels-untwist bonds)

module _ (plain : PlainStepLaw) (net : NetworkValue) (n : ℕ) (p q : PartValue) (between : Bool) (summed twist : List ℤ) (w : IsPairAt net n p q between summed twist) (f : FusionValue)
    (labels_first : (earlier f).labels ≡ p.labels) (labels_second : (later f).labels ≡ q.labels) (is_summed : f.summed ≡ summed) (is_between : f.between_odd ≡ between)
    (first : (g : TensorGroup) (bonds : List Bond) → AreTwistedLines net.twists (sectors net) bonds → summed ≡ labels bonds → IsPartOf net.group (sectors net) p g →
    IsTensorOf net.group (sectors net) (earlier f) (twisted_where (not f.is_first) (parities net) bonds g))
    (second : (h : TensorGroup) (bonds : List Bond) → AreTwistedLines net.twists (sectors net) bonds → summed ≡ labels bonds → IsPartOf net.group (sectors net) q h →
    IsTensorOf net.group (sectors net) (later f) (twisted_where (not (not f.is_first)) (parities net) bonds h))
    (table : (g h : TensorGroup) (bonds : List Bond) → IsPartOf net.group (sectors net) p g → IsPartOf net.group (sectors net) q h → summed ≡ labels bonds →
    (cond f.is_first g.role h.role ≡ role f) × (cond f.is_first (fuses g bonds) (fuses h bonds) ≡ true)) where
  fuse_facts : FuseFacts net n p q summed f
  fuse_facts = go (step_at net n) refl
    where
      par : Parities
      par = parities net

      pick_role : (b : Bool) (x y : TensorGroup) → (cond b x y).role ≡ cond b x.role y.role
      pick_role true x y = refl
      pick_role false x y = refl

      pick_fuses : (b : Bool) (x y : TensorGroup) (bonds : List Bond) → fuses (cond b x y) bonds ≡ cond b (fuses x bonds) (fuses y bonds)
      pick_fuses true x y bonds = refl
      pick_fuses false x y bonds = refl

      go : (t : Step) → step_at net n ≡ t → FuseFacts net n p q summed f
      go (trace before g behind bonds left) e = absurd (none (subst (λ u. ArePartsOf net.group (sectors net) (p ∷ q ∷ []) (takes u)) e w.taken))
        where
          none : ArePartsOf net.group (sectors net) (p ∷ q ∷ []) (g ∷ []) → ⊥
          none k = k.1
      go (pair before g middle h behind bonds left) e = record {
        place = k;
        fusion = record {
          sound = like.sound;
          at = like.step;
          lines = plain_lines net.twists (sectors net) bonds left all_lines;
          earlier = first g bonds lines over parts.0;
          later = second h bonds lines over parts.1.0;
          role = pick_role f.is_first x y ∙ ap₂ (cond f.is_first) (same_role (not f.is_first) par bonds g) (same_role (not (not f.is_first)) par bonds h) ∙ what.0;
          fuses =
              pick_fuses f.is_first x y (map untwist bonds)
              ∙ ap₂ (cond f.is_first) (same_fuses (not f.is_first) par bonds g) (same_fuses (not (not f.is_first)) par bonds h) ∙ what.1;
          summed = is_summed ∙ over ∙ sym (labels-untwist bonds);
          between = is_between ∙ w.odd ∙ ap is_odd_between e;
          shape =
              subst (λ (m : Node). IsWithinLimits net.group (legs_on (sectors net) m.ends) (flux_of net.group (result par u))) (sym like.node)
              (subst (λ (ms : List Listed). IsWithinLimits net.group (result_legs par (sectors net) t) (sum_flux net.group (map (λ m. m.flux) ms))) (sym like.members) fitting.narrow);
        };
        made_of = λ r m ls em el fused.
            subst (λ u. IsPartOf net.group (sectors net) (record { number = m; member = own r; labels = ls }) (result par u)) (sym e) (record {
              number = em ∙ parts.0.number;
              role = refl;
              tensor =
                  subst (λ ks. IsTensorOf net.group (sectors net) (record { tensor = tensor_of r; labels = ks }) (result par t))
                  (ap₂ (λ (ks ms : List ℤ). filter (λ l. not (is_in int_eq l (labels bonds))) (ks ++ ms)) labels_first labels_second
                  ∙ filter-append (λ l. not (is_in int_eq l (labels bonds))) p.labels q.labels
                  ∙ ap (λ ms. labels_without ms p.labels ++ labels_without ms q.labels) (sym over) ∙ sym el)
                  (moved_to net.group (sectors net) (opens net) t u bonds (tensor_of r) ((earlier f).labels ++ (later f).labels) like fused);
              narrow = tt;
            });
      }
        where
          t : Step
          t = pair before g middle h behind bonds left

          u : Step
          u = plain_step par (not f.is_first) t

          x : TensorGroup
          x = twisted_where (not f.is_first) par bonds g

          y : TensorGroup
          y = twisted_where (not (not f.is_first)) par bonds h

          at : IsStepAt (state_at net n) t
          at = subst (IsStepAt (state_at net n)) e w.ready.step

          like : IsLikeStep par (opens net) t u
          like = plain par (opens net) (state_at net n) t (not f.is_first) w.ready.sound at

          all_lines : AreTwistedLines net.twists (sectors net) (bonds ++ left)
          all_lines = lines_perm net.twists (sectors net) at.1 w.ready.lines

          lines : AreTwistedLines net.twists (sectors net) bonds
          lines = lines_first net.twists (sectors net) bonds left all_lines

          k : PairAt
          k = record {
            group = net.group;
            sectors = sectors net;
            opens = opens net;
            state = found_by u;
            before = before;
            first = x;
            between = middle;
            second = y;
            behind = behind;
            bonds = map untwist bonds;
            left = map untwist left;
          }

          parts : ArePartsOf net.group (sectors net) (p ∷ q ∷ []) (g ∷ h ∷ [])
          parts = subst (λ u. ArePartsOf net.group (sectors net) (p ∷ q ∷ []) (takes u)) e w.taken

          over : summed ≡ labels bonds
          over = w.over ∙ ap (λ u. labels (sums_over u)) e

          what : (cond f.is_first g.role h.role ≡ role f) × (cond f.is_first (fuses g bonds) (fuses h bonds) ≡ true)
          what = table g h bonds parts.0 parts.1.0 over

          fitting : IsFitting net.group (sectors net) (result par t)
          fitting = subst (λ u. IsFitting net.group (sectors net) (result par u)) e w.ready.fitting

-- a table as a member
table_tensor : (K : ℕ) (t : Table K) (m : MemberValue) → table_value K t ≡ m → cond (is_fuse_table K t) (fuse_tensor (combiner_of K t)) (split_tensor (combiner_of K t)) ≡ member_tensor m
table_tensor K (Fuse c) m e = ap member_tensor e
table_tensor K (Split c) m e = ap member_tensor e

table_role : (K : ℕ) (t : Table K) (m : MemberValue) → table_value K t ≡ m → role_of m ≡ cond (is_fuse_table K t) fuse_table split_table
table_role K (Fuse c) m e = ap role_of (sym e)
table_role K (Split c) m e = ap role_of (sym e)

fuses_part : (net : NetworkValue) (p : PartValue) (g : TensorGroup) (bonds : List Bond) (summed : List ℤ) → IsPartOf net.group (sectors net) p g → summed ≡ labels bonds →
    meets_condition (role_of p.member) p.labels summed ≡ true → fuses g bonds ≡ true
fuses_part net p g bonds summed k e m = (λ i. meets_condition (sym k.role i) (sym k.tensor.node.labels i) (sym e i)) ∙ m

-- the table stands before the tensor
pub fuse_first_facts : PlainStepLaw → (net : NetworkValue) (n : ℕ) (p q : PartValue) (between : Bool) (summed twist : List ℤ) → IsPairAt net n p q between summed twist → (K : ℕ) (t : Table K) → table_value K t ≡ p.member →
    meets_condition (role_of p.member) p.labels summed ≡ true → (a : BlockedValue) → IsTensor (tensor_of a) → IsTwistedPart true summed twist q (tensor_of a) →
    FuseFacts net n p q summed (record { combiner = combiner_of K t; is_fuse = is_fuse_table K t; is_first = true; table_labels = p.labels; tensor = a; tensor_labels = q.labels; summed = summed; between_odd = between })
fuse_first_facts plain net n p q between summed twist w K t e m a good same =
    fuse_facts plain net n p q between summed twist w
    (record { combiner = combiner_of K t; is_fuse = is_fuse_table K t; is_first = true; table_labels = p.labels; tensor = a; tensor_labels = q.labels; summed = summed; between_odd = between })
    refl refl refl refl
    (λ g bonds lines over k. subst (λ u. IsTensorOf net.group (sectors net) (record { tensor = u; labels = p.labels }) g) (sym (table_tensor K t p.member e)) k.tensor)
    (λ h bonds lines over k. twisted_one net.group (sectors net) net.twists bonds (placed_part q) h (tensor_of a) lines k.tensor good
    (subst₂ (λ ss ts. IsTwistedPart true ss ts q (tensor_of a)) over w.twists same))
    (λ g h bonds k l over. (sym k.role ∙ table_role K t p.member e, fuses_part net p g bonds summed k over m))

-- the table stands behind the tensor
pub fuse_second_facts : PlainStepLaw → (net : NetworkValue) (n : ℕ) (p q : PartValue) (between : Bool) (summed twist : List ℤ) → IsPairAt net n p q between summed twist → (K : ℕ) (t : Table K) → table_value K t ≡ q.member →
    meets_condition (role_of q.member) q.labels summed ≡ true → (a : BlockedValue) → IsTensor (tensor_of a) → IsTwistedPart true summed twist p (tensor_of a) →
    FuseFacts net n p q summed (record { combiner = combiner_of K t; is_fuse = is_fuse_table K t; is_first = false; table_labels = q.labels; tensor = a; tensor_labels = p.labels; summed = summed; between_odd = between })
fuse_second_facts plain net n p q between summed twist w K t e m a good same =
    fuse_facts plain net n p q between summed twist w
    (record { combiner = combiner_of K t; is_fuse = is_fuse_table K t; is_first = false; table_labels = q.labels; tensor = a; tensor_labels = p.labels; summed = summed; between_odd = between })
    refl refl refl refl
    (λ g bonds lines over k. twisted_one net.group (sectors net) net.twists bonds (placed_part p) g (tensor_of a) lines k.tensor good
    (subst₂ (λ ss ts. IsTwistedPart true ss ts p (tensor_of a)) over w.twists same))
    (λ h bonds lines over k. subst (λ u. IsTensorOf net.group (sectors net) (record { tensor = u; labels = q.labels }) h) (sym (table_tensor K t q.member e)) k.tensor)
    (λ g h bonds k l over. (sym l.role ∙ table_role K t q.member e, fuses_part net q h bonds summed l over m))

-- a step that fuses is written down as one
pub kind_fuse : (net : NetworkValue) (n : ℕ) (p q : PartValue) (between : Bool) (summed twist : List ℤ) → IsPairAt net n p q between summed twist →
    (meets_condition (role_of p.member) p.labels summed ≡ true) ⊎ (meets_condition (role_of q.member) q.labels summed ≡ true) → (written (step_at net n)).kind ≡ fuse_step
kind_fuse net n p q between summed twist w m = go (step_at net n) w.taken w.over
  where
    either : (a b : Bool) → (a ≡ true) ⊎ (b ≡ true) → (if a || b then fuse_step else pair_step) ≡ fuse_step
    either true b h = refl
    either false true h = refl
    either false false (inl h) = absurd (false≢true h)
    either false false (inr h) = absurd (false≢true h)

    go : (t : Step) → ArePartsOf net.group (sectors net) (p ∷ q ∷ []) (takes t) → summed ≡ labels (sums_over t) → (written t).kind ≡ fuse_step
    go (trace before g behind bonds left) k e = absurd k.1
    go (pair before g middle h behind bonds left) k e = either (fuses g bonds) (fuses h bonds) (which m)
      where
        which : (meets_condition (role_of p.member) p.labels summed ≡ true) ⊎ (meets_condition (role_of q.member) q.labels summed ≡ true) → (fuses g bonds ≡ true) ⊎ (fuses h bonds ≡ true)
        which (inl x) = inl (fuses_part net p g bonds summed k.0 e x)
        which (inr x) = inr (fuses_part net q h bonds summed k.1.0 e x)

-- a table is even
pub table_even : (K : ℕ) (t : Table K) → false ≡ is_odd_tensor (member_tensor (table_value K t))
table_even K (Fuse c) = sym (parity_of_zero c.now.group)
table_even K (Split c) = sym (parity_of_zero c.now.group)

-- in the terms of a program

module _ (plain : PlainStepLaw) (net : NetworkValue) (n : ℕ) (p q : PartValue) (between : Bool) (summed twist : List ℤ) (w : IsPairAt net n p q between summed twist) (K : ℕ) (t : Table K) (a : BlockedValue) (good : IsTensor (tensor_of a))
    (c : CombinerValue) (b : Bool) (xs ys : List ℤ) (ec : c ≡ combiner_of K t) (eb : b ≡ is_fuse_table K t) where
  pub fuse_first_at : table_value K t ≡ p.member → meets_condition (role_of p.member) p.labels summed ≡ true → IsTwistedPart true summed twist q (tensor_of a) → xs ≡ p.labels → ys ≡ q.labels →
      FuseFacts net n p q summed (record { combiner = c; is_fuse = b; is_first = true; table_labels = xs; tensor = a; tensor_labels = ys; summed = summed; between_odd = between })
  fuse_first_at e m same ex ey =
      subst (FuseFacts net n p q summed) (sym (λ i. record { combiner = ec i; is_fuse = eb i; is_first = true; table_labels = ex i; tensor = a; tensor_labels = ey i; summed = summed; between_odd = between }))
      (fuse_first_facts plain net n p q between summed twist w K t e m a good same)

  pub fuse_second_at : table_value K t ≡ q.member → meets_condition (role_of q.member) q.labels summed ≡ true → IsTwistedPart true summed twist p (tensor_of a) → xs ≡ q.labels → ys ≡ p.labels →
      FuseFacts net n p q summed (record { combiner = c; is_fuse = b; is_first = false; table_labels = xs; tensor = a; tensor_labels = ys; summed = summed; between_odd = between })
  fuse_second_at e m same ex ey =
      subst (FuseFacts net n p q summed) (sym (λ i. record { combiner = ec i; is_fuse = eb i; is_first = false; table_labels = ex i; tensor = a; tensor_labels = ey i; summed = summed; between_odd = between }))
      (fuse_second_facts plain net n p q between summed twist w K t e m a good same)

pub fuse_made : (net : NetworkValue) (n : ℕ) (p q : PartValue) (summed : List ℤ) (f : FusionValue) (k : FuseFacts net n p q summed f) (t : BlockedValue) (r : PartValue) (m : ℕ) (xs ys : List ℤ) →
    r ≡ record { number = m; member = own t; labels = labels_without summed xs ++ labels_without summed ys } → m ≡ p.number → xs ≡ p.labels → ys ≡ q.labels → IsFused f k.place t → IsMadeAt net n r
fuse_made net n p q summed f k t r m xs ys e em ex ey fused =
    subst (IsMadeAt net n) (sym e) (k.made_of t m (labels_without summed xs ++ labels_without summed ys) em (λ i. labels_without summed (ex i) ++ labels_without summed (ey i)) fused)
