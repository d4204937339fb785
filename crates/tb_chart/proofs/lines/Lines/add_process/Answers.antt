use Rattle.std.proofs.Common.{◌∙◌, length, refl, sym}
use Rattle.tb_chart.proofs.LineLemmas.{adds_process}
use Rattle.tb_chart.proofs.PlaceLemmas.{puts_at}
use Rattle.tb_chart.proofs.lines.Lines.add_process.Goals as goal

pub returns-in_ok-push-in-Some : goal.returns-in_ok-push-in-Some
returns-in_ok-push-in-Some c =
    let puts = puts_at c.args.number c.len.result (length c.args.self.now.processes.items) c.args.self.now.places.items c.put_place.new.places.items
    (c.len.ensures ∙ c.args.self.now.processes.ok.0) c.in_ok-put_place-in-Some.ensures in
    adds_process c.args.scene.now.players.items c.args.number c.in-Some.body (record { number = c.args.number; body = c.in-Some.body })
    c.args.self.now _ (sym c.in-Some.ensures) puts refl refl c.in_ok-push-in-Some.ensures.items refl refl
    (sym c.has_process.ensures ∙ c.if-has_process.false)
