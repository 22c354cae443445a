use Rattle.plcs_base.proofs.Counting as counting
use Rattle.plcs_base.proofs.count_laws.counts_add_up.Goals as goal

pub returns-clause-checks : goal.returns-clause-checks
returns-clause-checks c = record {
  none = λ most before now nothing. counting.checks_none most nothing;
  one = λ most before now room one. counting.checks_one most room one;
  joined = λ first second most before between now room one two. counting.checks_joined most room one two;
}

pub returns-clause-lays : goal.returns-clause-lays
returns-clause-lays c = record {
  none = λ most before now nothing. counting.lays_none most nothing;
  one = λ most before now room one. counting.lays_one most room one;
  joined = λ first second most before between now room one two. counting.lays_joined most room one two;
}
