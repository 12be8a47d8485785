-- What threads made of the items of a slice, in order.
use Rattle.std.proofs.Common.{◌≡◌, List, [], ◌∷◌, map, subst, ◌∙◌, Vec, Bor}
use Rattle.std.specs.Prelude.{IfOk, Ok, Err, MatchResult}
use Rattle.std.specs.Global.{Global}
use Rattle.std.specs.declared.result.Result.{Result}
use Rattle.std.specs.declared.alloc.AllocError.{AllocError}
use Rattle.std.specs.List.{AllZip, Contains}
use Rattle.rayon.proofs.ToStd.{slice-map}

all_ok : {X Y : Type 0} (f : X → Y) (zs : List (Bor X)) (ys : List Y) → AllZip (λ (z : Bor X) (r : Result Y AllocError). IfOk r (λ y. y ≡ f z.now)) zs (map Ok ys) → AllZip (λ (z : Bor X) y. y ≡ f z.now) zs ys
all_ok f [] [] h = h
all_ok f [] (y ∷ ys) h = absurd h
all_ok f (z ∷ zs) [] h = absurd h
all_ok f (z ∷ zs) (y ∷ ys) h = (h.0, all_ok f zs ys h.1)

-- where all that was made is collected, it is what the function makes of each item
pub collected : {X Y : Type 0} (f : X → Y) (xs : List X) (zs : List (Bor X)) (rs : List (Result Y AllocError)) (r : Result (Vec Y Global) AllocError) → map (λ (z : Bor X). z.now) zs ≡ xs →
    AllZip (λ (z : Bor X) (r : Result Y AllocError). IfOk r (λ y. y ≡ f z.now)) zs rs → MatchResult r (λ v. (ys : List Y) × (rs ≡ map Ok ys) × (v.items ≡ ys)) (λ e. Contains rs (Err e)) →
    IfOk r (λ v. v.items ≡ map f xs)
collected f xs zs rs (Ok v) shown made got = got.2 ∙ slice-map zs xs shown f got.0 (all_ok f zs got.0 (subst (AllZip (λ z r. IfOk r (λ y. y ≡ f z.now)) zs) got.1 made))
collected f xs zs rs (Err e) shown made got = tt
