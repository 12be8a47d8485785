-- The parts before the steps of a site, made of those before the first step.
use Rattle.std.proofs.Common.{◌≡◌, ◌≤◌, ℕ, ◌+◌, ◌-◌, ◌*◌, List, [], ◌∷◌, ◌++◌, take, drop, ◌∙◌, ap, ap₂, arith}
use Rattle.std.proofs.lemmas.List.{append_assoc, take-take, drop-take}
use Rattle.qn_engine.specs.Parts.{PartValue}
use Rattle.qn_corr.specs.Sweeping.{with_environment}

pub resumed_is : (n j : ℕ) (ps a b c d ops kets : List PartValue) (p : PartValue) → j ≤ n →
    kets ≡ drop (2 * n + j) ps → a ≡ take (2 * n) (take (2 * n + j) ps) → ops ≡ drop (n + j) a → b ≡ take (n - j) (take (n + j) a) →
    c ≡ b ++ p ∷ [] → d ≡ c ++ ops → d ++ kets ≡ with_environment n j ps p
resumed_is n j ps a b c d ops kets p le ek ea eo eb ec ed =
    let whole : a ≡ take (2 * n) ps = ea ∙ take-take (2 * n) (2 * n + j) ps (omega arith) in
    let first : b ≡ take (n - j) ps = eb ∙ take-take (n - j) (n + j) a (omega arith) ∙ ap (take (n - j)) whole ∙ take-take (n - j) (2 * n) ps (omega (arith, le)) in
    let two : 2 * n ≡ n + j + (n - j) = omega (arith, le) in
    let middle : ops ≡ take (n - j) (drop (n + j) ps) = eo ∙ ap (drop (n + j)) whole ∙ ap (λ k. drop (n + j) (take k ps)) two ∙ drop-take (n + j) (n - j) ps in
    ap₂ (λ (us vs : List PartValue). us ++ vs) (ed ∙ ap₂ (λ (us vs : List PartValue). us ++ vs) (ec ∙ ap (λ (us : List PartValue). us ++ p ∷ []) first) middle) ek
    ∙ append_assoc (take (n - j) ps ++ p ∷ []) (take (n - j) (drop (n + j) ps)) (drop (2 * n + j) ps)
    ∙ append_assoc (take (n - j) ps) (p ∷ []) (take (n - j) (drop (n + j) ps) ++ drop (2 * n + j) ps)
