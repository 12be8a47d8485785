-- Operators with nothing at fault are those of a site.
use Rattle.std.proofs.Common.{◌≡◌, ℕ, ◌+◌, ◌<◌, ◌*◌, List, [], ◌∷◌, ◌++◌, length, map, refl, sym, ap, ap₂, ◌∙◌, subst, arith, String, Global, None, append_assoc}
use Rattle.std.specs.List.{All}
use Rattle.std.specs.List.Sorted.{IsStrictlySortedBy}
use Rattle.std.specs.String.{string_cmp}
use Rattle.std.specs.Cmp.Lexicographic.{slice_cmp}
use Rattle.std.specs.Ordering.{nat_cmp}
use Rattle.std.specs.Prelude.{Option, string_bytes}
use Rattle.std.specs.Option.{option_or}
use Rattle.std.proofs.lemmas.List.Elements.{All-push}
use Rattle.std.proofs.lemmas.List.{get_or-map, length-map, map-append}
use Rattle.std.proofs.lemmas.Map.Keys.{Less-from_sorted}
use Rattle.serde_json.specs.declared.value.Value.{Value}
use Rattle.qn_charge.specs.declared.factor.Factor.{Factor}
use Rattle.qn_index.specs.Legs.{LegValue, total}
use Rattle.qn_sites.specs.Refusals.{IsClean, IsOwnFault, no_op}
use Rattle.qn_sites.specs.Sites.{AreAscending, GivenOp}
use Rattle.qn_sites.specs.declared.fault.SiteFault.TheVariants.{OpCharge}
use Rattle.qn_parts.specs.declared.fault.Fault.{Fault}
use Rattle.qn_parts.specs.Faults.{first_from}
use Rattle.qn_sumdoc.specs.Objects.{Named, named}
use Rattle.qn_sumdoc.specs.Operators.{given_of, IsOperatorOf}

-- the keys of a map
abbrev pub keys_of : List (String Global × Value) → List (String Global)
keys_of es = map (λ e. e.0) es

-- the names of operators
abbrev pub names_of : List GivenOp → List (List ℕ)
names_of gs = map (λ (g : GivenOp). g.name) gs

-- the names of the operators that are meant are the keys
names_are : (fs : List Factor) (es : List (String Global × Value)) → names_of (map (given_of fs) (map named es)) ≡ map string_bytes (keys_of es)
names_are fs [] = refl
names_are fs (e ∷ es) = ap (λ ns. string_bytes e.0 ∷ ns) (names_are fs es)

bytes_ascend : (ks : List (String Global)) → IsStrictlySortedBy string_cmp ks → AreAscending (map string_bytes ks)
bytes_ascend [] s i j less lt = absurd (omega (arith, lt))
bytes_ascend (k ∷ ks) s i j less lt =
    let below : j < length (k ∷ ks) = omega (arith, lt, length-map (k ∷ ks) string_bytes) in
    ap₂ (slice_cmp nat_cmp) (get_or-map string_bytes (k ∷ ks) i k [] (omega (arith, less, below))) (get_or-map string_bytes (k ∷ ks) j k [] below)
    ∙ Less-from_sorted string_cmp (k ∷ ks) i j k s less below

-- the operators under the keys of a map ascend by name
pub ops_ascend : (fs : List Factor) (es : List (String Global × Value)) (gs : List GivenOp) → IsStrictlySortedBy string_cmp (keys_of es) → gs ≡ map (given_of fs) (map named es) → AreAscending (names_of gs)
ops_ascend fs es gs s is = subst AreAscending (sym (ap names_of is ∙ names_are fs es)) (bytes_ascend (keys_of es) s)

-- ---- what holds of operators as they are given, and of the program's

-- ---- the loop over the members

-- the operators of the members that come before the rest
pub record AreFirstOperators (fs : List Factor) (l : LegValue) (ms rest : List Named) (gs : List GivenOp) : Type 0 where
  pub are : gs ++ map (given_of fs) rest ≡ map (given_of fs) ms
  pub full : All (λ (g : GivenOp). length g.entries ≡ total l.sectors * total l.sectors) gs
  pub clean : All (IsClean fs l) gs

-- a walk goes on after a member without a fault
pub members_passed : (check : ℕ → Named → Option Fault) (n p : ℕ) (ms rest : List (String Global × Value)) (e : String Global × Value) → ms ≡ e ∷ rest → p ≡ n → check p (named e) ≡ None
    → first_from check (p + 1) (map named rest) ≡ first_from check n (map named ms)
members_passed check n p ms rest e is place none =
    sym
    (ap (λ es. first_from check n (map named es)) is
    ∙ (ap (λ k. first_from check k (named e ∷ map named rest)) (sym place) ∙ ap (λ o. option_or o (first_from check (p + 1) (map named rest))) none))

-- an operator more
pub members_added : {O : Type 0} (see : O → GivenOp) (fs : List Factor) (l : LegValue) (all : List Named) (ms rest : List (String Global × Value)) (e : String Global × Value) (made new : List O) (o : O)
    → ms ≡ e ∷ rest → new ≡ made ++ o ∷ [] → IsOperatorOf fs l (named e) (see o) → AreFirstOperators fs l all (map named ms) (map see made)
    → AreFirstOperators fs l all (map named rest) (map see new)
members_added see fs l all ms rest e made new o is more op h =
    let pushed : map see new ≡ map see made ++ see o ∷ [] = ap (map see) more ∙ map-append see made (o ∷ []) in
    subst (AreFirstOperators fs l all (map named rest)) (sym pushed)
    (record {
      are = append_assoc (map see made) (see o ∷ []) (map (given_of fs) (map named rest))
          ∙ (ap (λ g. map see made ++ g ∷ map (given_of fs) (map named rest)) op.is ∙ (ap (λ es. map see made ++ map (given_of fs) (map named es)) (sym is) ∙ h.are));
      full = All-push (λ (g : GivenOp). length g.entries ≡ total l.sectors * total l.sectors) (map see made) (see o) h.full op.full;
      clean = All-push (IsClean fs l) (map see made) (see o) h.clean op.clean;
    })
