use Rattle.qn_value.proofs.RowsLemmas
use Rattle.qn_value.proofs.by_rows.rows_law.Goals as goal

pub returns : goal.returns
returns c par dims es fs rs ss p q bonds opens xs net long dr ds hr hs fit =
    RowsLemmas.rows_law par dims es fs rs ss p q bonds opens xs net long fit dr ds hr hs
