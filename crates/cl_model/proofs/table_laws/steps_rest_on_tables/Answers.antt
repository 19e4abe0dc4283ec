use Rattle.std.proofs.Common.{◌∷◌}
use Rattle.cl_model.specs.Machine.{Initiate, Settle, Prepare, NextRound, Stray}
use Rattle.cl_model.proofs.Tables.{trusted_parts}
use Rattle.cl_model.proofs.table_laws.steps_rest_on_tables.Goals as goal

pub returns-clause-initiated : goal.returns-clause-initiated
returns-clause-initiated c = λ script rounds es fs name place loader trusted.
    let may = (trusted_parts script rounds es (Initiate name place loader ∷ fs) trusted).1.0 in (may.0, may.1.fresh)

pub returns-clause-settled : goal.returns-clause-settled
returns-clause-settled c = λ script rounds es fs d i v trusted. (trusted_parts script rounds es (Settle d i v ∷ fs) trusted).1.0

pub returns-clause-prepared : goal.returns-clause-prepared
returns-clause-prepared c = λ script rounds es fs t trusted. (trusted_parts script rounds es (Prepare t ∷ fs) trusted).1.0

pub returns-clause-rounds : goal.returns-clause-rounds
returns-clause-rounds c = λ script rounds es fs trusted. (trusted_parts script rounds es (NextRound ∷ fs) trusted).1.0

pub returns-clause-no_stray : goal.returns-clause-no_stray
returns-clause-no_stray c = λ script rounds es fs trusted. (trusted_parts script rounds es (Stray ∷ fs) trusted).1.0
