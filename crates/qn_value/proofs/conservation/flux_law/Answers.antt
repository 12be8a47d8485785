use Rattle.qn_value.proofs.FluxLemmas
use Rattle.qn_value.proofs.conservation.flux_law.Goals as goal

pub returns : goal.returns
returns c fs charge par ns qs bonds opens group net h = FluxLemmas.flux_law fs group charge par ns qs bonds opens net h
