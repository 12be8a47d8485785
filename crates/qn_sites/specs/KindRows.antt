-- The kinds of sites as the program holds them.
use Rattle.std.specs.Prelude.{map}
use Rattle.qn_sites.specs.declared.kinds.KindData.{KindData}
use Rattle.qn_sites.specs.declared.kinds.OpData.{OpData}
use Rattle.qn_sites.specs.Kinds.{OpRow, KindRow, entry_of}

-- an operator of a kind
abbrev pub op_row : OpData → OpRow
op_row o = record { name = o.name.now; charge = o.charge.now; entries = map entry_of o.entries.now }

-- a kind
abbrev pub kind_row : KindData → KindRow
kind_row k = record { name = k.name.now; factors = k.factors.now; charges = map (λ c. c.now) k.charges.now; ops = map op_row k.ops.now }
