-- The number of exchanges where things are called by other names, or have other parities that do not matter.
use Rattle.std.proofs.Common.{◌≡◌, ◌+◌, Bool, true, ◌&&◌, cond, List, [], ◌∷◌, refl, sym, ◌∙◌, ap, ap₂, count_by, map}
use Rattle.std.proofs.lemmas.Bool.{or_left, or_right}
use Rattle.std.proofs.lemmas.List.{map-id}
use Rattle.std.proofs.lemmas.List.Sums.{sum_by-cons}
use Rattle.qn_sign.specs.Sign.{is_in, stands_before, exchanges, IsTest}
use Rattle.qn_sign.specs.ExchangeLaws.{OtherParitiesDoNotMatter, NamesDoNotMatter}
use Rattle.qn_sign.proofs.Order.{before-map}

module _ {E F : Type 0} (same : E → E → Bool) (law : IsTest same) (name : E → F) where
  count_by-names : (p : F → Bool) (q : E → Bool) (xs : List E) → ((x : E) → is_in same x xs ≡ true → p (name x) ≡ q x) →
      count_by p (map name xs) ≡ count_by q xs
  count_by-names p q [] h = refl
  count_by-names p q (x ∷ xs) h =
      sum_by-cons (λ x. cond (p x) 1 0) (name x) (map name xs)
      ∙ ap₂ (λ n m. n + m) (ap (λ b. cond b 1 0) (h x (or_left (same x x) (is_in same x xs) (law.itself x))))
      (count_by-names p q xs (λ y k. h y (or_right (same y x) (is_in same y xs) k)))
      ∙ sym (sum_by-cons (λ x. cond (q x) 1 0) x xs)

  -- two goals of the same pattern, whose pairs count alike
  pub exchanges-names : (alike : F → F → Bool) (odd : E → Bool) (other : F → Bool) (w : List E) (v : List F) (goal : List E) →
      ((x y : E) → is_in same x goal ≡ true → is_in same y goal ≡ true →
      (other (name x) && other (name y) && stands_before alike v (name y) (name x)) ≡ (odd x && odd y && stands_before same w y x)) →
      exchanges alike other v (map name goal) ≡ exchanges same odd w goal
  exchanges-names alike odd other w v [] h = refl
  exchanges-names alike odd other w v (x ∷ goal) h =
      ap₂ (λ n m. n + m)
      (count_by-names (λ y. other (name x) && other y && stands_before alike v y (name x)) (λ y. odd x && odd y && stands_before same w y x) goal
      (λ y k. h x y (or_left (same x x) (is_in same x goal) (law.itself x)) (or_right (same y x) (is_in same y goal) k)))
      (exchanges-names alike odd other w v goal (λ y z k l. h y z (or_right (same y x) (is_in same y goal) k) (or_right (same z x) (is_in same z goal) l)))

-- the laws

pub other_parities_do_not_matter : {E : Type 0} (same : E → E → Bool) → IsTest same → OtherParitiesDoNotMatter same
other_parities_do_not_matter same law odd other word goal h =
    ap (exchanges same odd word) (sym (map-id goal))
    ∙ exchanges-names same law (λ x. x) same other odd word word goal
    (λ x y k l. λ i. h x k i && h y l i && stands_before same word y x)

pub names_do_not_matter : {E F : Type 0} (same : E → E → Bool) (alike : F → F → Bool) → IsTest same → NamesDoNotMatter same alike
names_do_not_matter same alike law name odd word goal h =
    exchanges-names same law name alike (λ x. odd (name x)) odd word (map name word) goal
    (λ x y k l. ap (λ b. odd (name x) && odd (name y) && b) (before-map same alike name y x word law (λ z m. h y z l m) (λ z m. h x z k m)))
