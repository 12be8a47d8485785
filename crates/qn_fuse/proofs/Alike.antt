-- All entries of fused and of split tensors, out of range and off the flux too; to fuse and to split are inverse to one another.
use Rattle.std.proofs.Common.{◌≡◌, ℕ, ℤ, ◌<◌, List, [], ◌∷◌, ◌++◌, length, get_or, true, false, Bool, arith, refl, ap, ◌∙◌, sym, subst, ◌⊎◌, inl, inr}
use Rattle.std.specs.Cmp.Lexicographic.{pointwise}
use Rattle.std.specs.Cmp.Rules.{signed_items}
use Rattle.std.specs.Ordering.{int_eq}
use Rattle.std.proofs.lemmas.Bool.{false≢true}
use Rattle.qn_gauss.specs.Gaussian.{zero_g}
use Rattle.qn_charge.specs.declared.factor.Factor.{Factor}
use Rattle.qn_index.specs.Legs.{LegValue}
use Rattle.qn_index.specs.Tuples.{net}
use Rattle.qn_index.specs.Places.{IsValues, sectors_at}
use Rattle.qn_value.specs.Tensors.{TensorValue, IsTensor, entry_of}
use Rattle.qn_block.specs.Blocked.{BlockedValue, IsBlocked, MeetFlux, tensor_of}
use Rattle.qn_block.specs.Combiners.{CombinerValue, IsCombiner, fused_leg, fused_values, stands_at}
use Rattle.qn_block.proofs.Ascending.{in_range_or_not}
use Rattle.qn_block.proofs.Entries.{entry_out_of_range, entry_off_flux}
use Rattle.qn_block.proofs.Located.{values_total, stands_below}
use Rattle.qn_block.proofs.Rows.{entry_out}
use Rattle.qn_block.proofs.TableRows.{is_matching}
use Rattle.qn_value.proofs.RowsLemmas.{append_parts}
use Rattle.qn_fuse.specs.Fused.{wide_legs, narrow_legs, SplitAfterFuseLaw, FuseAfterSplitLaw}
use Rattle.qn_fuse.specs.Pieces.{IsFusedEntry, IsSplitEntry}
use Rattle.qn_fuse.proofs.Fluxes.{sectors-append, sectors_length, fused_net}
use Rattle.qn_fuse.proofs.Moved.{stands_there, values_parts, values_joined}
use Rattle.qn_block.proofs.Lookup.{values_length}

meets_or_not : (fs : List Factor) (ls : List LegValue) (q : List ℤ) (xs : List ℕ) → MeetFlux fs ls q xs ⊎ (MeetFlux fs ls q xs → ⊥)
meets_or_not fs ls q xs = by (in_range_or_not ls xs) (pointwise int_eq (net fs ls (sectors_at ls xs)) q) refl
  where
    by : IsValues ls xs ⊎ (IsValues ls xs → ⊥) → (b : Bool) → pointwise int_eq (net fs ls (sectors_at ls xs)) q ≡ b → MeetFlux fs ls q xs ⊎ (MeetFlux fs ls q xs → ⊥)
    by (inl v) true e = inl (record { range = v; flux = (signed_items (net fs ls (sectors_at ls xs)) q).0 e })
    by (inl v) false e = inr (λ m. false≢true (sym e ∙ (signed_items (net fs ls (sectors_at ls xs)) q).1 m.flux))
    by (inr n) b e = inr (λ m. n m.range)

entry_off : (t : BlockedValue) (xs : List ℕ) → IsBlocked t → (MeetFlux t.group t.legs t.flux xs → ⊥) → entry_of (tensor_of t) xs ≡ zero_g
entry_off t xs h n = by (in_range_or_not t.legs xs)
  where
    by : IsValues t.legs xs ⊎ (IsValues t.legs xs → ⊥) → entry_of (tensor_of t) xs ≡ zero_g
    by (inl v) = entry_off_flux t xs h v (λ e. n (record { range = v; flux = e }))
    by (inr m) = entry_out_of_range t xs h m

-- one list of values among others
parts_of : (ks ls : List LegValue) (ps us : List ℕ) → length ps ≡ length ks → IsValues (ks ++ ls) (ps ++ us) → IsValues ks ps × IsValues ls us
parts_of ks ls ps us e h =
    let r = values_parts ks ls (ps ++ us) h in
    let p = append_parts ps us r.0 r.1 (e ∙ sym r.3) r.2 in
    (subst (IsValues ks) (sym p.0) r.4, subst (IsValues ls) (sym p.1) r.5)

module _ (c : CombinerValue) (hc : IsCombiner c) (A B : List LegValue) where
  abbrev f : LegValue
  f = fused_leg c.group c.legs c.arrow

  abbrev F : List (List ℕ)
  F = fused_values c.group c.legs c.arrow

  module _ (ps us qs : List ℕ) (v : ℕ) (lp : length ps ≡ length A) (st : stands_at F v us ≡ true) where
    own : IsValues c.legs us
    own = (is_matching c hc).values v us st

    to_wide : IsValues (narrow_legs c A B) (ps ++ (v ∷ qs)) → IsValues (wide_legs c A B) (ps ++ (us ++ qs))
    to_wide h = let r = parts_of A (f ∷ B) ps (v ∷ qs) lp h in values_joined A (c.legs ++ B) ps (us ++ qs) r.0 (values_joined c.legs B us qs own r.1.1)

    to_narrow : IsValues (wide_legs c A B) (ps ++ (us ++ qs)) → IsValues (narrow_legs c A B) (ps ++ (v ∷ qs))
    to_narrow h =
        let r = parts_of A (c.legs ++ B) ps (us ++ qs) lp h in
        let s = parts_of c.legs B us qs (values_length c.legs us own) r.1 in
        values_joined A (f ∷ B) ps (v ∷ qs) r.0 (omega (arith, stands_below F v us st, values_total c.group c.legs c.arrow), s.1)

    same_net : net c.group (narrow_legs c A B) (sectors_at (narrow_legs c A B) (ps ++ (v ∷ qs))) ≡ net c.group (wide_legs c A B) (sectors_at (wide_legs c A B) (ps ++ (us ++ qs)))
    same_net =
        let lu : length us ≡ length c.legs = values_length c.legs us own in
        ap (net c.group (narrow_legs c A B)) (sectors-append A (f ∷ B) ps (v ∷ qs) lp)
        ∙ fused_net c A B (sectors_at A ps) (sectors_at c.legs us) (sectors_at B qs) _ hc.group (sectors_length A ps lp) (sectors_length c.legs us lu) ((is_matching c hc).charge v us st)
        ∙ ap (net c.group (wide_legs c A B)) (ap (λ ss. sectors_at A ps ++ ss) (sym (sectors-append c.legs B us qs lu)) ∙ sym (sectors-append A (c.legs ++ B) ps (us ++ qs) lp))

    meet_wide : (q : List ℤ) → MeetFlux c.group (narrow_legs c A B) q (ps ++ (v ∷ qs)) → MeetFlux c.group (wide_legs c A B) q (ps ++ (us ++ qs))
    meet_wide q m = record { range = to_wide m.range; flux = sym same_net ∙ m.flux }

    meet_narrow : (q : List ℤ) → MeetFlux c.group (wide_legs c A B) q (ps ++ (us ++ qs)) → MeetFlux c.group (narrow_legs c A B) q (ps ++ (v ∷ qs))
    meet_narrow q m = record { range = to_narrow m.range; flux = same_net ∙ m.flux }

  module _ (wide narrow : BlockedValue) (hw : IsBlocked wide) (hn : IsBlocked narrow) (gw : wide.group ≡ c.group) (gn : narrow.group ≡ c.group) (q : narrow.flux ≡ wide.flux)
      (lw : wide.legs ≡ wide_legs c A B) (ln : narrow.legs ≡ narrow_legs c A B) where
    abbrev Meets : BlockedValue → List ℕ → Type 0
    Meets t xs = MeetFlux t.group t.legs t.flux xs

    moved : (fs gs : List Factor) (ks ls : List LegValue) (x y : List ℤ) (xs : List ℕ) → fs ≡ gs → ks ≡ ls → x ≡ y → MeetFlux fs ks x xs → MeetFlux gs ls y xs
    moved fs gs ks ls x y xs e l z m =
        subst (λ hs. MeetFlux hs ls y xs) e (subst (λ js. MeetFlux fs js y xs) l (subst (λ p. MeetFlux fs ks p xs) z m))

    abbrev Same : Type 0
    Same = (ps us qs : List ℕ) (v : ℕ) → length ps ≡ length A → stands_at F v us ≡ true → entry_of (tensor_of narrow) (ps ++ (v ∷ qs)) ≡ entry_of (tensor_of wide) (ps ++ (us ++ qs))

    pub fused_all : ((xs : List ℕ) → MeetFlux narrow.group narrow.legs narrow.flux xs → IsFusedEntry c (length A) (tensor_of wide) xs (entry_of (tensor_of narrow) xs)) → Same
    fused_all answers ps us qs v lp st = by (meets_or_not narrow.group narrow.legs narrow.flux (ps ++ (v ∷ qs)))
      where
        by : Meets narrow (ps ++ (v ∷ qs)) ⊎ (Meets narrow (ps ++ (v ∷ qs)) → ⊥) → entry_of (tensor_of narrow) (ps ++ (v ∷ qs)) ≡ entry_of (tensor_of wide) (ps ++ (us ++ qs))
        by (inl m) = answers (ps ++ (v ∷ qs)) m ps us qs v lp st refl
        by (inr n) =
            entry_off narrow (ps ++ (v ∷ qs)) hn n
            ∙ sym (entry_off wide (ps ++ (us ++ qs)) hw (λ m. n (moved _ _ _ _ _ _ _ (sym gn) (sym ln) (sym q) (meet_narrow ps us qs v lp st wide.flux (moved _ _ _ _ _ _ _ gw lw refl m)))))

    pub split_all : ((xs : List ℕ) → MeetFlux wide.group wide.legs wide.flux xs → IsSplitEntry c (length A) (tensor_of narrow) xs (entry_of (tensor_of wide) xs)) → Same
    split_all answers ps us qs v lp st = by (meets_or_not wide.group wide.legs wide.flux (ps ++ (us ++ qs)))
      where
        by : Meets wide (ps ++ (us ++ qs)) ⊎ (Meets wide (ps ++ (us ++ qs)) → ⊥) → entry_of (tensor_of narrow) (ps ++ (v ∷ qs)) ≡ entry_of (tensor_of wide) (ps ++ (us ++ qs))
        by (inl m) = sym (answers (ps ++ (us ++ qs)) m ps us qs v lp st refl)
        by (inr n) =
            entry_off narrow (ps ++ (v ∷ qs)) hn (λ m. n (moved _ _ _ _ _ _ _ (sym gw) (sym lw) q (meet_wide ps us qs v lp st narrow.flux (moved _ _ _ _ _ _ _ gn ln refl m))))
            ∙ sym (entry_off wide (ps ++ (us ++ qs)) hw n)

-- ---- inverse to one another

out_of : (t : TensorValue) (xs : List ℕ) → IsTensor t → (IsValues t.legs xs → ⊥) → entry_of t xs ≡ zero_g
out_of t xs h n = entry_out t.group t.legs t.flux t.rows xs h.rows n

pub split_after_fuse : SplitAfterFuseLaw
split_after_fuse c A B t r s hc ht hs p q = record {
  group = sym q.group ∙ p.group;
  legs = legs;
  flux = sym q.flux ∙ p.flux;
  entries = λ xs. by xs (in_range_or_not t.legs xs);
}
  where
    legs : s.legs ≡ t.legs
    legs = q.wide_legs ∙ sym p.wide_legs

    by : (xs : List ℕ) → IsValues t.legs xs ⊎ (IsValues t.legs xs → ⊥) → entry_of s xs ≡ entry_of t xs
    by xs (inl v) =
        let x = values_parts A (c.legs ++ B) xs (subst (λ ls. IsValues ls xs) p.wide_legs v) in
        let y = values_parts c.legs B x.1 x.5 in
        let w = (is_matching c hc).some y.0 y.4 in
        let is : xs ≡ x.0 ++ (y.0 ++ y.1) = x.2 ∙ ap (λ ys. x.0 ++ ys) y.2 in
        ap (entry_of s) is ∙ sym (q.entries x.0 y.0 y.1 w.0 x.3 w.1) ∙ p.entries x.0 y.0 y.1 w.0 x.3 w.1 ∙ ap (entry_of t) (sym is)
    by xs (inr n) = out_of s xs hs (λ h. n (subst (λ ls. IsValues ls xs) legs h)) ∙ sym (out_of t xs ht n)

pub fuse_after_split : FuseAfterSplitLaw
fuse_after_split c A B t r s hc ht hs p q = record {
  group = q.group ∙ sym p.group;
  legs = legs;
  flux = q.flux ∙ sym p.flux;
  entries = λ xs. by xs (in_range_or_not t.legs xs);
}
  where
    legs : s.legs ≡ t.legs
    legs = q.narrow_legs ∙ sym p.narrow_legs

    at : (xs ps ks : List ℕ) → xs ≡ ps ++ ks → length ps ≡ length A → IsValues (fused_leg c.group c.legs c.arrow ∷ B) ks → entry_of s xs ≡ entry_of t xs
    at xs ps [] e lp h = absurd h
    at xs ps (v ∷ qs) e lp h =
        let F = fused_values c.group c.legs c.arrow in
        let below : v < length F = omega (arith, h.0, values_total c.group c.legs c.arrow) in
        let st = stands_there F v below in
        ap (entry_of s) e ∙ q.entries ps (get_or F v []) qs v lp st ∙ sym (p.entries ps (get_or F v []) qs v lp st) ∙ ap (entry_of t) (sym e)

    by : (xs : List ℕ) → IsValues t.legs xs ⊎ (IsValues t.legs xs → ⊥) → entry_of s xs ≡ entry_of t xs
    by xs (inl v) = let x = values_parts A (fused_leg c.group c.legs c.arrow ∷ B) xs (subst (λ ls. IsValues ls xs) p.narrow_legs v) in at xs x.0 x.1 x.2 x.3 x.5
    by xs (inr n) = out_of s xs hs (λ h. n (subst (λ ls. IsValues ls xs) legs h)) ∙ sym (out_of t xs ht n)
