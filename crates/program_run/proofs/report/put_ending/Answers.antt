use Rattle.program_run.proofs.report.put_ending.Goals as goal

pub returns-in-NoMemory : goal.returns-in-NoMemory
returns-in-NoMemory g c = rw c.in-NoMemory.is c.put_bytes-in-NoMemory.ensures

pub returns-in-WriteFault : goal.returns-in-WriteFault
returns-in-WriteFault g c = rw c.in-WriteFault.is c.put_bytes-in-WriteFault.ensures

pub returns-in-InputRefused : goal.returns-in-InputRefused
returns-in-InputRefused g c =
    rw (c.in-InputRefused.is, ← c.reported_refusal-in-InputRefused.ensures) c.put_message-in-InputRefused.ensures
