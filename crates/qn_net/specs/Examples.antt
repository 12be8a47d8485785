-- Small networks, whose steps, values and passing places are computed.
use Rattle.std.specs.Prelude.{ℕ, ℤ, pos, negsuc, List, [], ◌∷◌, map}
use Rattle.qn_gauss.specs.Gaussian.{Gaussian}
use Rattle.qn_index.specs.declared.leg.Dir.TheVariants.{Out, In}
use Rattle.qn_index.specs.declared.leg.Dir.{Dir}
use Rattle.qn_index.specs.Legs.{LegValue}
use Rattle.qn_block.specs.Combiners.{CombinerValue}
use Rattle.qn_value.specs.Networks.{moved}
use Rattle.qn_value.specs.Tensors.{TensorValue}
use Rattle.qn_value.specs.Examples.{fermions, whole, odd_leg, mode, single, tensor, created, taken, diagonal, pair_created, pair_taken, placed}
use Rattle.qn_net.specs.Groups.Role.{tensor as plain, fuse_table}
use Rattle.qn_net.specs.Steps.{Kind, WrittenStep, carry}
use Rattle.qn_net.specs.NetworkValues.{PlacedMember, NetworkValue, parities, opens, begin, steps}

-- a tensor of its own with these labels
abbrev pub given : TensorValue → List ℤ → PlacedMember
given t ls = record { placed = placed t ls; role = plain }

-- the fuse table of a combiner with these labels
abbrev pub fusing : TensorValue → List ℤ → PlacedMember
fusing t ls = record { placed = placed t ls; role = fuse_table }

-- these members, with this order and no twisted labels
abbrev pub network : List PlacedMember → List ℤ → NetworkValue
network ms order = record { group = fermions; members = ms; order = order; twists = [] }

abbrev pub written_as : Kind → ℕ → ℕ → List ℤ → WrittenStep
written_as kind first second labels = record { kind = kind; first = first; second = second; labels = labels }

-- the entries of what the steps leave, its legs in the order of the open legs
abbrev pub left_entries : NetworkValue → List ℕ → List Gaussian
left_entries net xs = map (λ g. (moved (parities net) g.node (opens net)).entry xs) (carry (parities net) (steps net) (begin net)).groups

-- a leg with n values of charge 0
abbrev pub even_leg : Dir → ℕ → LegValue
even_leg d n = record { arrow = d; sectors = record { charge = pos 0 ∷ []; dim = n } ∷ [] }

abbrev pub vector : Dir → Gaussian → Gaussian → TensorValue
vector d x y = tensor (even_leg d 2 ∷ []) (pos 0) (record { tuple = 0 ∷ []; entries = x ∷ y ∷ [] } ∷ [])

abbrev pub minus_one : Gaussian
minus_one = record { re = negsuc 0; im = pos 0 }

-- two odd tensors that share a line
abbrev pub two : NetworkValue
two = network (given (created 2) (pos 1 ∷ []) ∷ given (taken 3) (pos 1 ∷ []) ∷ []) (pos 1 ∷ [])

-- an odd tensor stands between the two that share a line
abbrev pub between : NetworkValue
between = network (given (created 1) (pos 1 ∷ []) ∷ given (created 1) (negsuc 0 ∷ []) ∷ given (taken 1) (pos 1 ∷ []) ∷ []) (pos 1 ∷ [])

-- two tensors that share two lines
abbrev pub twice : NetworkValue
twice = network (given pair_created (pos 1 ∷ pos 2 ∷ []) ∷ given pair_taken (pos 1 ∷ pos 2 ∷ []) ∷ []) (pos 1 ∷ pos 2 ∷ [])

-- a matrix with both ends of a line
abbrev pub trace_alone : NetworkValue
trace_alone = network (given (diagonal In Out) (pos 1 ∷ pos 1 ∷ []) ∷ []) (pos 1 ∷ [])

-- two matrices in a ring, by an order whose second label was summed with the first
abbrev pub ring : NetworkValue
ring = network (given (diagonal Out In) (pos 1 ∷ pos 2 ∷ []) ∷ given (diagonal Out In) (pos 2 ∷ pos 1 ∷ []) ∷ []) (pos 2 ∷ pos 1 ∷ [])

-- a tensor with a line on itself, which is first contracted with another one
abbrev pub loop_tensor : TensorValue
loop_tensor = tensor (mode In ∷ mode Out ∷ odd_leg Out ∷ []) (pos 1) (single (0 ∷ 0 ∷ 0 ∷ []) 2 ∷ single (1 ∷ 1 ∷ 0 ∷ []) 3 ∷ [])

abbrev pub loop : NetworkValue
loop = network (given loop_tensor (pos 3 ∷ pos 3 ∷ pos 1 ∷ []) ∷ given (taken 1) (pos 1 ∷ []) ∷ []) (pos 1 ∷ pos 3 ∷ [])

-- the fuse table of one In leg of charge 1 with an Out fused leg, of charge -1
abbrev pub one_fused : TensorValue
one_fused =
    record {
      group = fermions;
      legs = record { arrow = Out; sectors = record { charge = negsuc 0 ∷ []; dim = 1 } ∷ [] } ∷ odd_leg Out ∷ [];
      flux = pos 0 ∷ [];
      rows = record { values = 0 ∷ 0 ∷ []; entry = minus_one } ∷ [];
    }

abbrev pub fuse : NetworkValue
fuse = network (fusing one_fused (negsuc 0 ∷ pos 1 ∷ []) ∷ given (taken 3) (pos 1 ∷ []) ∷ []) (pos 1 ∷ [])

-- the combiner of this table
abbrev pub one_combiner : CombinerValue
one_combiner = record { group = fermions; legs = odd_leg In ∷ []; arrow = Out }

-- the fuse table of one Out leg of charge 1 with an In fused leg, of charge -1
abbrev pub turned_combiner : CombinerValue
turned_combiner = record { group = fermions; legs = odd_leg Out ∷ []; arrow = In }

abbrev pub turned_fused : TensorValue
turned_fused =
    record {
      group = fermions;
      legs = record { arrow = In; sectors = record { charge = negsuc 0 ∷ []; dim = 1 } ∷ [] } ∷ odd_leg In ∷ [];
      flux = pos 0 ∷ [];
      rows = record { values = 0 ∷ 0 ∷ []; entry = whole 1 } ∷ [];
    }

-- two fuse tables that share a line over which the first is not fused
abbrev pub not_fused : NetworkValue
not_fused = network (fusing one_fused (pos 1 ∷ negsuc 0 ∷ []) ∷ fusing turned_fused (pos 1 ∷ negsuc 1 ∷ []) ∷ []) (pos 1 ∷ [])

-- the sum is 0, and the sum of magnitudes is x + y
abbrev pub large : ℕ → ℕ → NetworkValue
large x y = network (given (vector Out (whole x) (whole y)) (pos 1 ∷ []) ∷ given (vector In (whole 1) minus_one) (pos 1 ∷ []) ∷ []) (pos 1 ∷ [])
