use Rattle.qn_net.proofs.MemberLemmas.{member_law}
use Rattle.qn_net.proofs.member.member_law.Goals as goal

pub returns : goal.returns
returns c = member_law
