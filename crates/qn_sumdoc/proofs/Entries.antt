-- The members of a tree beside the entries of a map.
use Rattle.std.proofs.Common.{◌≡◌, List, [], ◌∷◌, map, Bool, ◌&&◌, String, Global, refl, ap}
use Rattle.std.specs.List.{list_all}
use Rattle.serde_json.specs.View.{members_view}
use Rattle.serde_json.specs.declared.value.Value.{Value}
use Rattle.qn_sumdoc.specs.Objects.{Named, listed_members, named}

pub members_listed : (es : List (String Global × Value)) → listed_members (members_view es) ≡ map named es
members_listed [] = refl
members_listed (e ∷ es) = ap (λ ms. named e ∷ ms) (members_listed es)

pub tests_of_named : (test : Named → Bool) (es : List (String Global × Value)) → list_all test (map named es) ≡ list_all (λ e. test (named e)) es
tests_of_named test [] = refl
tests_of_named test (e ∷ es) = ap (λ b. test (named e) && b) (tests_of_named test es)

pub ruleset views = (members_listed, tests_of_named)
