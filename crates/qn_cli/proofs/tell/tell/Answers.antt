use Rattle.qn_cli.proofs.tell.tell.Goals as goal

pub returns-in-ReadFault-clause-part : goal.returns-in-ReadFault-clause-part
returns-in-ReadFault-clause-part g c = rw c.in-ReadFault.is c.write_line.ensures.part

pub returns-in-WriteFault-clause-whole : goal.returns-in-WriteFault-clause-whole
returns-in-WriteFault-clause-whole g c = rw c.in-WriteFault.is c.write_line-in-WriteFault.ensures.whole

pub returns-in-WriteFault-clause-part : goal.returns-in-WriteFault-clause-part
returns-in-WriteFault-clause-part g c = rw c.in-WriteFault.is c.write_line-in-WriteFault.ensures.part

pub returns-in-Memory-clause-whole : goal.returns-in-Memory-clause-whole
returns-in-Memory-clause-whole g c = rw c.in-Memory.is c.write_line-in-Memory.ensures.whole

pub returns-in-Memory-clause-part : goal.returns-in-Memory-clause-part
returns-in-Memory-clause-part g c = rw c.in-Memory.is c.write_line-in-Memory.ensures.part
