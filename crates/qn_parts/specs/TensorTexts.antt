-- The text of a tensor: compact JSON, the keys of each object ascending. Blocks that are all zeros are left out.
use Rattle.std.specs.Prelude.{ℕ, ℤ, List, map, filter, codes}
use Rattle.serde_json.specs.Data.{Data, boolean, string, array, object, item, no_items, member, no_members}
use Rattle.serde_json.specs.Find.{of_integer}
use Rattle.serde_json.specs.View.{items_of}
use Rattle.qn_charge.specs.declared.factor.Factor.{Factor}
use Rattle.qn_charge.specs.declared.factor.Factor.TheVariants.{U1, Zn}
use Rattle.qn_index.specs.declared.leg.Dir.{Dir}
use Rattle.qn_index.specs.declared.leg.Dir.TheVariants.{Out, In}
use Rattle.qn_index.specs.Legs.{SectorValue, LegValue}
use Rattle.qn_value.specs.Tensors.{BlockValue}
use Rattle.qn_block.specs.Blocked.{BlockedValue, is_filled}
use Rattle.qn_json.specs.Texts.{list_data, count_data, whole_data, entries_data, line_of}

-- {"fermion":bool,"kind":"u1"} or {"fermion":bool,"kind":"zn","n":n}
abbrev pub factor_data : Factor → Data
factor_data (U1 fermion) = object (member (codes "fermion") (boolean fermion) (member (codes "kind") (string (codes "u1")) no_members))
factor_data (Zn n fermion) =
    object (member (codes "fermion") (boolean fermion) (member (codes "kind") (string (codes "zn")) (member (codes "n") (count_data n) no_members)))

-- a charge or flux: its parts
abbrev pub charge_data : List ℤ → Data
charge_data c = list_data (map whole_data c)

-- a sector: its charge and its dimension
abbrev pub sector_data : SectorValue → Data
sector_data s = array (item (charge_data s.charge) (item (count_data s.dim) no_items))

abbrev pub arrow_word : Dir → List ℕ
arrow_word Out = codes "out"
arrow_word In = codes "in"

-- {"dir":"out" or "in","sectors":[sector,..]}
abbrev pub leg_data : LegValue → Data
leg_data l = object (member (codes "dir") (string (arrow_word l.arrow)) (member (codes "sectors") (list_data (map sector_data l.sectors)) no_members))

-- a block: its tuple and its entries
abbrev pub block_data : BlockValue → Data
block_data b = array (item (list_data (map count_data b.tuple)) (item (entries_data b.entries) no_items))

-- {"blocks":[block,..],"flux":flux,"group":group,"legs":[leg,..]}
abbrev pub tensor_data : BlockedValue → Data
tensor_data t =
    object
    (member (codes "blocks") (list_data (map block_data (filter is_filled t.blocks)))
    (member (codes "flux") (charge_data t.flux)
    (member (codes "group") (list_data (map factor_data t.group))
    (member (codes "legs") (list_data (map leg_data t.legs)) no_members))))

-- the text, with its newline
abbrev pub tensor_text : BlockedValue → List ℕ
tensor_text t = line_of (tensor_data t)
