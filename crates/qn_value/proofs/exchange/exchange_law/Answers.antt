use Rattle.qn_value.proofs.ExchangeLaw
use Rattle.qn_value.proofs.exchange.exchange_law.Goals as goal

pub returns : goal.returns
returns c = ExchangeLaw.exchange_law
