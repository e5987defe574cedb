use Rattle.std.proofs.Common.{◌++◌, ◌∙◌, ℕ, List, ap, append-nil, sym}
use Rattle.std.proofs.lemmas.List.{drop_all}
use Rattle.std.specs.List.{flat_map}
use Rattle.hub_story.specs.declared.told.Told.{Told}
use Rattle.hub_story.specs.Told.{told}
use Rattle.hub_story_text.specs.PortText.{made_line, port_line}
use Rattle.hub_story_text.proofs.StepLines.{ports-all, ports-made, ports-not-made}
use Rattle.hub_story_text.proofs.ports.put_ports.Goals as goal
use Rattle.hub_story_text.proofs.ports.put_ports.Goals.{in-Made+in_ok-put_port, in_default}

pub loop-made-preserved : goal.loop-made-preserved
loop-made-preserved c =
    let es = c.args.journal.now.entries in
    let all = told c.args.journal.now.head es in
    let made = c.args.made.now in
    let i = c.loop-made.made-index in
    let item = c.made-item.result in
    let here = c.made-item.is in
    elim c.match-made.branch [
      | in-Made+in_ok-put_port w ↦
          let is-made = ap (λ (t : Told). t.event.what) (sym here) ∙ w.in-Made.is in
          let said = w.in_ok-put_port.ensures ∙ ap (λ (t : Told). c.loop-made.out.items ++ port_line es all t w.in-Made.port) here in
          rw w.out-is
          (ports-made es all made i item _ c.loop-made.out.items w.put_port.new.out.items _ c.loop-made-test.true c.loop-made.invariant is-made said)
      | in_default w ↦
          let same = ap (λ (t : Told). t.event.what) here in
          rw w.out-is
          (ports-not-made es all made i item c.loop-made.out.items _ c.loop-made-test.true c.loop-made.invariant (λ p is. w.in_default.not-Made p (same ∙ is)))
    ]

pub returns : goal.returns
returns c =
    let es = c.args.journal.now.entries in
    let all = told c.args.journal.now.head es in
    let line : Told → List ℕ = λ t. made_line es all t t.event.what in
    let out = c.loop-made.out.items in
    let first = c.args.out.now.items in
    sym (append-nil out) ∙ ap (λ l. out ++ flat_map line l) (sym (drop_all c.loop-made.made-index c.args.made.now c.loop-made-test.false))
    ∙ c.loop-made.invariant ∙ ap (λ l. first ++ flat_map line l) c.requires.made ∙ ap (λ l. first ++ l) (ports-all es all all)
