-- Small networks of one kind of fermion, whose values are computed.
use Rattle.std.specs.Prelude.{ℕ, ℤ, pos, negsuc, true, List, [], ◌∷◌}
use Rattle.qn_gauss.specs.Gaussian.{Gaussian}
use Rattle.qn_charge.specs.declared.factor.Factor.{Factor}
use Rattle.qn_charge.specs.declared.factor.Factor.TheVariants.{U1}
use Rattle.qn_index.specs.declared.leg.Dir.TheVariants.{Out, In}
use Rattle.qn_index.specs.declared.leg.Dir.{Dir}
use Rattle.qn_index.specs.Legs.{LegValue}
use Rattle.qn_value.specs.Tensors.{BlockValue, TensorValue, rows_of}
use Rattle.qn_value.specs.Labels.{Placed}

-- charges count fermions
abbrev pub fermions : List Factor
fermions = U1 true ∷ []

abbrev pub whole : ℕ → Gaussian
whole n = record { re = pos n; im = pos 0 }

-- a leg with one odd value of charge 1
abbrev pub odd_leg : Dir → LegValue
odd_leg d = record { arrow = d; sectors = record { charge = pos 1 ∷ []; dim = 1 } ∷ [] }

-- a leg with an even value of charge 0 and an odd one of charge 1
abbrev pub mode : Dir → LegValue
mode d = record { arrow = d; sectors = record { charge = pos 0 ∷ []; dim = 1 } ∷ record { charge = pos 1 ∷ []; dim = 1 } ∷ [] }

-- a block with one entry
abbrev pub single : List ℕ → ℕ → BlockValue
single t n = record { tuple = t; entries = whole n ∷ [] }

abbrev pub tensor : List LegValue → ℤ → List BlockValue → TensorValue
tensor ls q bs = record { group = fermions; legs = ls; flux = q ∷ []; rows = rows_of ls bs }

-- one fermion created, and one taken away
abbrev pub created : ℕ → TensorValue
created n = tensor (odd_leg Out ∷ []) (pos 1) (single (0 ∷ []) n ∷ [])

abbrev pub taken : ℕ → TensorValue
taken n = tensor (odd_leg In ∷ []) (negsuc 0) (single (0 ∷ []) n ∷ [])

-- the matrix with the diagonal 2, 3
abbrev pub diagonal : Dir → Dir → TensorValue
diagonal first second = tensor (mode first ∷ mode second ∷ []) (pos 0) (single (0 ∷ 0 ∷ []) 2 ∷ single (1 ∷ 1 ∷ []) 3 ∷ [])

abbrev pub pair_created : TensorValue
pair_created = tensor (odd_leg Out ∷ odd_leg Out ∷ []) (pos 2) (single (0 ∷ 0 ∷ []) 1 ∷ [])

abbrev pub pair_taken : TensorValue
pair_taken = tensor (odd_leg In ∷ odd_leg In ∷ []) (negsuc 1) (single (0 ∷ 0 ∷ []) 1 ∷ [])

abbrev pub placed : TensorValue → List ℤ → Placed
placed t ls = record { tensor = t; labels = ls }
