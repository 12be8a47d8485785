use Rattle.qn_braket.proofs.WorkedChains.{amplitude_10, amplitude_01, turned_01, overlap_13, element_1, expectation_6, flux_1, overlap_value, expectation_value, overlap_flux}
use Rattle.qn_braket.proofs.examples.worked_examples.Goals as goal

pub returns-clause-amplitude_10 : goal.returns-clause-amplitude_10
returns-clause-amplitude_10 c = amplitude_10

pub returns-clause-amplitude_01 : goal.returns-clause-amplitude_01
returns-clause-amplitude_01 c = amplitude_01

pub returns-clause-turned_01 : goal.returns-clause-turned_01
returns-clause-turned_01 c = turned_01

pub returns-clause-overlap : goal.returns-clause-overlap
returns-clause-overlap c = overlap_13

pub returns-clause-element : goal.returns-clause-element
returns-clause-element c = element_1

pub returns-clause-expectation : goal.returns-clause-expectation
returns-clause-expectation c = expectation_6

pub returns-clause-flux : goal.returns-clause-flux
returns-clause-flux c = flux_1

pub returns-clause-overlap_value : goal.returns-clause-overlap_value
returns-clause-overlap_value c = overlap_value

pub returns-clause-expectation_value : goal.returns-clause-expectation_value
returns-clause-expectation_value c = expectation_value

pub returns-clause-overlap_flux : goal.returns-clause-overlap_flux
returns-clause-overlap_flux c = overlap_flux
