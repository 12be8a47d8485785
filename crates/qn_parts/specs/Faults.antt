-- What is wrong with a document, and where. The first fault is a function of the document's tree.
use Rattle.std.specs.Prelude.{◌≡◌, ℕ, ◌+◌, pos, List, [], ◌∷◌, Bool, if◌then◌else◌, Option, Some, None, Result, Ok, Err}
use Rattle.std.specs.Option.{option_or, option_map}
use Rattle.std.specs.List.{position_from}
use Rattle.qn_parts.specs.declared.fault.Fault.{Fault}
use Rattle.qn_parts.specs.declared.fault.DocFault.{DocFault}
use Rattle.qn_parts.specs.declared.fault.DocFault.TheVariants.{Bad, Memory}

-- the fault of this code at this place
abbrev pub fault : ℕ → ℕ → ℕ → ℕ → Fault
fault code tensor part item = record { code = code; tensor = tensor; part = part; item = pos item }

abbrev pub fault_if : Bool → Fault → Option Fault
fault_if bad f = if bad then Some f else None

-- the first fault: that of the checks that come earlier, or else of those that come later
infixr 6 ◌then◌
abbrev pub ◌then◌ : Option Fault → Option Fault → Option Fault
earlier then later = option_or earlier later

-- the first fault of a list's members, whose places are counted from n
abbrev pub first_from : {A : Type 0} → (ℕ → A → Option Fault) → ℕ → List A → Option Fault
first_from check n [] = None
first_from check n (x ∷ xs) = option_or (check n x) (first_from check (n + 1) xs)

-- the first fault of a list's members, whose places are counted from 1
abbrev pub first_of : {A : Type 0} → (ℕ → A → Option Fault) → List A → Option Fault
first_of check xs = first_from check 1 xs

-- the fault of the first member that is bad, at its place
abbrev pub first_bad : {A : Type 0} → (A → Bool) → (ℕ → Fault) → List A → Option Fault
first_bad bad at xs = option_map (λ i. at (i + 1)) (position_from bad 0 xs)

-- what an error says of a walk: Bad carries the walk's first fault, and want of memory is free
abbrev pub Fails : DocFault → Option Fault → Type 0
Fails (Bad f) first = first ≡ Some f
Fails Memory first = Unit {0}

-- what a reader answers: Ok exactly where the walk finds no fault, and then P holds of the value;
-- Bad with exactly the first fault of the walk; or want of memory
abbrev pub Reads : {T : Type 0} → Result T DocFault → Option Fault → (T → Type 0) → Type 0
Reads (Ok value) first P = (first ≡ None) × P value
Reads (Err e) first P = Fails e first
