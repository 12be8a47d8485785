-- The text of a summary: compact JSON, the keys of each object ascending.
use Rattle.std.specs.Prelude.{ℕ, List, codes}
use Rattle.serde_json.specs.Data.{Data, object, member, no_members}
use Rattle.qn_gauss.specs.Gaussian.{Gaussian}
use Rattle.qn_json.specs.Texts.{entry_data, line_of, count_data}

-- how many sites there are, the value of their network, and how many steps were taken at which cost
pub record SummaryValue : Type 0 where
  pub sites : ℕ
  pub scalar : Gaussian
  pub steps : ℕ
  pub cost : ℕ

-- {"cost":c,"scalar":["re","im"],"sites":n,"steps":k}
abbrev pub summary_data : SummaryValue → Data
summary_data s =
    object
    (member (codes "cost") (count_data s.cost)
    (member (codes "scalar") (entry_data s.scalar)
    (member (codes "sites") (count_data s.sites)
    (member (codes "steps") (count_data s.steps) no_members))))

-- the text, with its newline
abbrev pub summary_text : SummaryValue → List ℕ
summary_text s = line_of (summary_data s)
