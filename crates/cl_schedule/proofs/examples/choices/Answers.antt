use Rattle.std.proofs.Common.{◌≡◌, ◌<◌, ◌+◌, [], ◌∷◌, inr, refl, arith}
use Rattle.cl_model.specs.Machine.{MayGoOn, after, state_after}
use Rattle.cl_model.specs.States.{State, OutOfMemory, start}
use Rattle.cl_model.specs.ExampleServices.{failed_post}
use Rattle.cl_schedule.specs.Examples.{pair}
use Rattle.cl_schedule.proofs.examples.choices.Goals as goal

one_round : (s : State) → s.round + 1 ≡ 1 → MayGoOn pair s → ⊥
one_round s e h = absurd (let l : s.round + 1 < 1 = h.later in omega arith)

pub returns-clause-played : goal.returns-clause-played
returns-clause-played c = (
  record { is = refl; made = (1, _, record { waits = refl; asked = refl }, inr (OutOfMemory, tt, refl)); passed = one_round (after start (failed_post 1)) refl },
  (
    record { is = refl; made = (0, _, record { waits = refl; asked = refl }, inr (OutOfMemory, tt, refl)); passed = one_round (state_after start (failed_post 1 ∷ failed_post 0 ∷ [])) refl },
    (record { is = refl; made = tt; passed = one_round (state_after start (failed_post 1 ∷ failed_post 0 ∷ [])) refl }, tt),
  ),
)
