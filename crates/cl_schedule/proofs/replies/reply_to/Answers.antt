use Rattle.std.proofs.Common.{inl, refl}
use Rattle.cl_schedule.proofs.replies.reply_to.Goals as goal

pub returns-in-Read : goal.returns-in-Read
returns-in-Read g c =
    rw c.in-Read.is (record { call = tt; replied = c.ask_source.ensures.replied c.args.registry.now; did = inl refl; kept = c.requires.kept; faults = c.ask_source.ensures.faults; unread = λ out. absurd (out tt) })
