use Rattle.std.proofs.Common.{arith, refl, sym, ◌+◌, ℕ, subst}
use Rattle.cl_tasks.specs.declared.turn.Turn.{Turn}
use Rattle.cl_tasks.specs.declared.turn.Turn.TheVariants as turn
use Rattle.cl_schedule.proofs.Owing.{count_is, count_none, count_told, owed_told}
use Rattle.cl_registry.specs.Tables.{state_of}
use Rattle.cl_schedule.specs.Nearing.{IsNear}
use Rattle.cl_schedule.proofs.Nearing.{near_on, no_read}
use Rattle.cl_schedule.proofs.Paying.{no_read_is, paying_none, paying_read, pays_on, pays_then}
use Rattle.cl_schedule.proofs.Seated.{expects_read, ready_on, seated_on}
use Rattle.cl_schedule.proofs.Steps.{TurnSays}
use Rattle.cl_schedule.proofs.seats.read_on.Goals as goal

pub loop-loader-init : goal.loop-loader-init
loop-loader-init g c = record { expects = c.requires.expects; ready = λ x r ready. ready; less = omega arith; faults = count_none _ _; known = λ x r v at q. (at, q, refl); paid = λ x r ready. paying_none g.T.Told.told x r c.args.task }

pub loop-loader-preserved : goal.loop-loader-preserved
loop-loader-preserved g c =
    let e = c.in-Read.ensures in
    let u : Turn g.row.T.Denot = turn.Read c.in-Read.loader c.in-Read.name in
    let says : TurnSays g.T.Told.told c.loop-loader.task c.turn.new.self c.loop-loader.reply u =
    record { config = e.config; asks = e.asks; serves = e.serves; keeps = e.keeps; backed = e.backed; next = e.next; blames = e.blames; refused = e.refused; own = e.own } in
    let inv = c.loop-loader.invariant in
    let less = e.left in
    let before = inv.less in
    record {
      expects = expects_read c.turn.new.self u c.ask_source-reply.result e.asks c.ask_source-reply.ensures.replied;
      ready = λ x r ready. ready_on g.T.Told.told x r c.loop-loader.task c.turn.new.self c.loop-loader.reply c.ask_source-reply.result c.in-Read.loader c.in-Read.name (inv.ready x r ready) says less (c.ask_source-reply.ensures.replied x);
      less = omega arith;
      faults = count_told _ _ _ _ _ _ inv.faults (sym (owed_told c.loop-loader.task c.loop-loader.reply u inv.expects says.refused)) c.ask_source-reply.ensures.faults;
      known = λ x r v at q.
          let k = inv.known x r v at q in
          absurd (no_read {A = g.row.T.Denot} (state_of x) r v c.loop-loader.task c.turn.new.self c.loop-loader.reply c.in-Read.loader c.in-Read.name k.0 k.1 e.own e.refused);
      paid = λ x r ready.
          paying_read g.T.Told.told x r c.args.task c.turn.new.self
          (pays_then g.T.Told.told x r c.args.task c.loop-loader.task c.turn.new.self (inv.paid x r ready)
          (pays_on {A = g.row.T.Denot} g.T.Told.told x r c.loop-loader.task c.turn.new.self c.loop-loader.reply (inv.ready x r ready) e.calls));
    }

pub returns-in_default : goal.returns-in_default
returns-in_default g c =
    let e = c.turn.ensures in
    let says : TurnSays g.T.Told.told c.loop-loader.task c.turn.new.self c.loop-loader.reply c.turn.result =
    record { config = e.config; asks = e.asks; serves = e.serves; keeps = e.keeps; backed = e.backed; next = e.next; blames = e.blames; refused = e.refused; own = e.own } in
    let inv = c.loop-loader.invariant in
    let less = e.left in
    let before = inv.less in
    record {
      seated = λ x q r ready. seated_on g.T.Told.told x q r c.loop-loader.task c.turn.new.self c.loop-loader.reply c.turn.result (inv.ready x r ready) says less (no_read_is c.turn.result c.in_default.not-Read) e.more;
      less = omega arith;
      faults = count_is _ _ _ _ _ _ refl (owed_told c.loop-loader.task c.loop-loader.reply c.turn.result inv.expects says.refused) inv.faults;
      known = λ x r v at q.
          let k = inv.known x r v at q in
          subst (λ (n : ℕ). IsNear (state_of x) r v (n + 1) c.turn.new.self c.turn.result) k.2
          (near_on (state_of x) r v c.loop-loader.task c.turn.new.self c.loop-loader.reply c.turn.result k.0 k.1 e.own e.refused);
      paid = λ x r ready.
          pays_then g.T.Told.told x r c.args.task c.loop-loader.task c.turn.new.self (inv.paid x r ready)
          (pays_on {A = g.row.T.Denot} g.T.Told.told x r c.loop-loader.task c.turn.new.self c.loop-loader.reply (inv.ready x r ready) e.calls);
    }
