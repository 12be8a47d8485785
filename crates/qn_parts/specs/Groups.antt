-- A group in a document: its form, its first fault, and the factors that it stands for.
use Rattle.std.specs.Prelude.{ℕ, ◌%◌, ℤ, pos, int_lt, unsigned_abs, List, Bool, ◌&&◌, ◌||◌, nat_lt, length, codes, if◌then◌else◌, Option, ◌==◌}
use Rattle.serde_json.specs.Data.{Data}
use Rattle.serde_json.specs.Find.{get}
use Rattle.qn_charge.specs.declared.factor.Factor.{Factor}
use Rattle.qn_charge.specs.declared.factor.Factor.TheVariants.{U1, Zn}
use Rattle.qn_parts.specs.Faults.{fault, fault_if, first_of, first_bad, ◌then◌}
use Rattle.qn_json.specs.Forms.{has, is_list, is_whole, is_flag, is_word}
use Rattle.qn_json.specs.Tree.{whole, flag}
use Rattle.qn_parts.specs.declared.fault.Fault.{Fault}

-- a factor Z_n
abbrev pub is_cyclic : Data → Bool
is_cyclic d = has (is_word (codes "zn")) (get (codes "kind") d)

-- {"kind":"u1","fermion":bool} or {"kind":"zn","n":whole,"fermion":bool}
abbrev pub is_factor : Data → Bool
is_factor d = has is_flag (get (codes "fermion") d)
    && (has (is_word (codes "u1")) (get (codes "kind") d) || is_cyclic d && has is_whole (get (codes "n") d))

-- a list of factors
abbrev pub is_group : Data → Bool
is_group d = is_list is_factor d

-- the n of a factor Z_n
abbrev pub modulus : Data → ℤ
modulus d = whole (get (codes "n") d)

abbrev pub is_fermionic : Data → Bool
is_fermionic d = flag (get (codes "fermion") d)

-- the factor that is meant
abbrev pub factor_of : Data → Factor
factor_of d = if is_cyclic d then Zn (unsigned_abs (modulus d)) (is_fermionic d) else U1 (is_fermionic d)

-- n is outside 2 to 1,000
abbrev pub has_bad_modulus : Data → Bool
has_bad_modulus d = is_cyclic d && (int_lt (modulus d) (pos 2) || int_lt (pos 1000) (modulus d))

-- a fermionic factor Z_n has odd n
abbrev pub is_odd_fermion : Data → Bool
is_odd_fermion d = is_cyclic d && (is_fermionic d && (unsigned_abs (modulus d) % 2 == 1))

-- F5 of the factor at place k
abbrev pub modulus_fault : ℕ → Data → Option Fault
modulus_fault k d = fault_if (has_bad_modulus d) (fault 5 0 k 0)

-- F4, then F5 over all factors, then F6 over all factors
abbrev pub group_fault : List Data → Option Fault
group_fault ds =
    fault_if (nat_lt 4 (length ds)) (fault 4 0 0 0)
    then first_of modulus_fault ds
    then first_bad is_odd_fermion (λ k. fault 6 0 k 0) ds
