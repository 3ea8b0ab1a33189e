use Rattle.std.proofs.Common.{◌≡◌, ◌<◌, ◌≤◌, ◌+◌, ℕ, suc, min, length, drop, Some, add-one, arith, ap, sym, ◌∙◌}
use Rattle.eval_scope.specs.declared.found.Found.{Found}
use Rattle.eval_scope.specs.Look.{first_found, labels, labels_from}
use Rattle.eval_scope.specs.Shown.{world_of}
use Rattle.eval_scope.proofs.LookLemmas.{label-found, label-passed, labels_from-end}
use Rattle.eval_scope.proofs.world.World.find_label.Goals as goal

pub returns-then-is_labelled : goal.returns-then-is_labelled
returns-then-is_labelled c =
    let w = world_of c.args.self.now in
    let name = c.args.name.now in
    let k = c.loop-port.port in
    let request : 0 ≡ c.args.ad = omega arith in
    let within : k < length w.docked = omega arith in
    let next : k + 1 ≡ suc k = add-one k in
    ap Found.Place c.root_of.ensures
    ∙ ap (λ (n : ℕ). Found.Place (record { ad = n; frame = 0 })) next
    ∙ sym (label-found w name (suc k) k w.ports w.docked within (c.is_labelled.ensures ∙ ap Some c.if-is_labelled.true))
    ∙ c.loop-port.invariant
    ∙ ap (λ (n : ℕ). first_found w name (labels w n)) request

pub loop-port-preserved : goal.loop-port-preserved
loop-port-preserved c =
    let w = world_of c.args.self.now in
    let name = c.args.name.now in
    let k = c.loop-port.port in
    let within : k < length w.docked = omega arith in
    ap (λ (n : ℕ). first_found w name (labels_from (suc n) (drop n w.ports) (drop n w.docked))) (add-one k)
    ∙ sym (label-passed w name (suc k) k w.ports w.docked within (c.is_labelled.ensures ∙ ap Some c.if-is_labelled.false))
    ∙ c.loop-port.invariant

pub returns : goal.returns
returns c =
    let w = world_of c.args.self.now in
    let name = c.args.name.now in
    let k = c.loop-port.port in
    let request : 0 ≡ c.args.ad = omega arith in
    let past : min (length w.ports) (length w.docked) ≤ k = omega arith in
    sym (ap (first_found w name) (labels_from-end (suc k) w.ports w.docked k past))
    ∙ c.loop-port.invariant
    ∙ ap (λ (n : ℕ). first_found w name (labels w n)) request
