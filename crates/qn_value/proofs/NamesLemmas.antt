use Rattle.std.proofs.Common.{◌≡◌, ℤ, Bool, true, false, cond, List, [], ◌∷◌, refl, sym, ◌∙◌, ap, ap₂, subst, map, int_eq}
use Rattle.qn_value.specs.Names.{name_in, StandsOnly, Follows}
use Rattle.qn_value.proofs.Sums.{label_test}

eq_symm : (x y : ℤ) → int_eq x y ≡ int_eq y x
eq_symm x y = go (int_eq x y) refl (int_eq y x) refl
  where
    go : (b : Bool) → int_eq x y ≡ b → (c : Bool) → int_eq y x ≡ c → b ≡ c
    go true e true f = refl
    go false e false f = refl
    go true e false f = sym (sym f ∙ subst (λ z. int_eq z x ≡ true) (label_test.equal x y e) (label_test.itself x))
    go false e true f = sym e ∙ subst (λ z. int_eq z y ≡ true) (label_test.equal y x f) (label_test.itself y)

-- the names of labels that follow k are not m, unless they are k
map_rest : (k m : ℤ) (ks ms : List ℤ) (f : ℤ → ℤ) → StandsOnly k m ks ms → map f ks ≡ ms → map (λ l. cond (int_eq l k) m (f l)) ks ≡ ms
map_rest k m [] [] f h e = refl
map_rest k m [] (m' ∷ ms) f h e = absurd h
map_rest k m (k' ∷ ks) [] f h e = absurd h
map_rest k m (k' ∷ ks) (m' ∷ ms) f h e =
    let p : f k' ≡ m' = cc in
    let q : map f ks ≡ ms = cc in
    ap₂ ◌∷◌ (head (int_eq k' k) refl p) (map_rest k m ks ms f h.1 q)
  where
    head : (b : Bool) → int_eq k' k ≡ b → f k' ≡ m' → cond b m (f k') ≡ m'
    head true u p = label_test.equal m m' (h.0 (eq_symm k k' ∙ u))
    head false u p = p

pub names_map : (ks ms : List ℤ) → Follows ks ms → map (name_in ks ms) ks ≡ ms
names_map [] [] h = refl
names_map [] (m ∷ ms) h = absurd h
names_map (k ∷ ks) [] h = absurd h
names_map (k ∷ ks) (m ∷ ms) h =
    ap₂ ◌∷◌ (ap (λ b. cond b m (name_in ks ms k)) (label_test.itself k)) (map_rest k m ks ms (name_in ks ms) h.0 (names_map ks ms h.1))
