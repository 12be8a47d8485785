use Rattle.qn_value.proofs.TraceRows
use Rattle.qn_value.proofs.by_rows.trace_rows_law.Goals as goal

pub returns : goal.returns
returns c par dims es rs p bonds opens xs net long dr hr fit =
    TraceRows.trace_rows_law par dims es rs p bonds opens xs net long fit dr hr
