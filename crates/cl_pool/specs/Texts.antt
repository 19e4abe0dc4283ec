-- The texts of faults of a pool.
use Rattle.std.specs.Prelude.{List, ℕ, codes}
use Rattle.cl_pool.specs.declared.fault.PoolFault.{PoolFault}
use Rattle.cl_pool.specs.declared.fault.PoolFault.TheVariants.{Memory, Workers, NoThread, Stray, Unanswered}

-- the text of why there is no report
abbrev pub pool_text : {A : Type 0} → PoolFault A → List ℕ
pool_text Memory = codes "V0 Memory"
pool_text Workers = codes "V1 Workers"
pool_text NoThread = codes "V2 NoThread"
pool_text Stray = codes "V3 Stray"
pool_text (Unanswered registry) = codes "V4 Unanswered"
