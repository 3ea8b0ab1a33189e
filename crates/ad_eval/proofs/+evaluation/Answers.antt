use Rattle.std.proofs.Common.{◌≡◌, ◌≤◌, ◌<◌, ◌+◌, ℕ, true, false, List, [], ◌∷◌, ◌++◌}
use Rattle.std.proofs.Common.{length, drop, Some, Err, option_map, max, arith, refl, ap, sym, ◌∙◌, subst}
use Rattle.std.specs.Option.{option_and_then}
use Rattle.ad_tree.specs.Tree.{Tree, Trees, pack, size, size_all, tree, trees, three}
use Rattle.ad_tree.proofs.TreeLemmas.{size-positive, size-at}
use Rattle.ad_value.specs.Plain.{Plain, boolean, plain, plain_of_lit, plains}
use Rattle.ad_value.specs.Operators.{binary_value, unary_value}
use Rattle.ad_value.specs.Demands.{all_demanded, chosen, conjunction, disjunction, list_value, selected, subscripted}
use Rattle.cycle_guard.specs.Sights.{pending}
use Rattle.eval_scope.specs.World.{PlainWorld, expr_of, frame_of_attribute, literal_of}
use Rattle.ad_eval.specs.declared.outcome.Outcome.{Outcome}
use Rattle.ad_eval.specs.declared.stop.Stop.{Stop}
use Rattle.ad_eval.specs.declared.reference.Reference.{Reference}
use Rattle.ad_eval.specs.Kept.{Answers, Ready}
use Rattle.ad_eval.specs.Listed.{listed_with}
use Rattle.ad_eval.specs.Node.{attribute_value, called, conditional, function_value}
use Rattle.ad_eval.specs.Reference.{IsInWorld, value_of}
use Rattle.ad_eval.specs.Scene.{binary_in, listed_in, results_in, selected_in, subscripted_in, unary_in, values_in, world_in}
use Rattle.ad_eval.specs.Value.{value_at, value_with}
use Rattle.ad_eval.proofs.KeptLemmas.{IsPartly, counts_same, counts_then, is_ready, ready_as, ready_is, rewritten, stops_all_by, stops_by}
use Rattle.ad_eval.proofs.CountLemmas.{unseen-fewer, unseen-same}
use Rattle.ad_eval.proofs.MeasureLemmas.{size-turn, turn-less}
use Rattle.ad_eval.proofs.NodeLemmas.{all_demanded-start, mapped_alike, values_and}
use Rattle.ad_eval.proofs.PartLemmas.{all_part_fails, answers_of, begins, finishes, finishes_applied, finishes_at_once, finishes_list, finishes_mapped}
use Rattle.ad_eval.proofs.PartLemmas.{finishes_with, hands_on, hands_on_all, mapped_part_fails, mapped_part_ready, part_done, part_fails, part_fails_all}
use Rattle.ad_eval.proofs.PartLemmas.{part_ready, rest_ends, rest_ready, stops_wanting}
use Rattle.ad_eval.proofs.ReferenceLemmas.{value_at-none, circle, fails_inside, kept_inside, ready_inside, still_pending}
use Rattle.ad_eval.proofs.ShapeLemmas.{shape-And, shape-Binary, shape-Call, shape-Cond, shape-Frame, shape-List, shape-Literal, shape-Name, shape-Or}
use Rattle.ad_eval.proofs.ShapeLemmas.{shape-Select, shape-Subscript, shape-Unary}
use Rattle.ad_eval.specs.Chain.{chained, joined, start}
use Rattle.ad_eval.proofs.SceneLemmas.{in_all, in_any, in_binary, in_call, in_choice, in_frame, in_list, in_literal, in_name, in_select, in_subscript, in_unary}
use Rattle.builtin_funcs.specs.Calls.{is_known}
use Rattle.ad_eval.proofs.ChainLemmas.{all_demanded-from, called-choice, called-function, called-unknown, conditional-three, conditional-wrong, chained-decided}
use Rattle.ad_eval.proofs.ChainLemmas.{chained-end, chained-from, listed-end, listed-from, pack-three, values-end}
use Rattle.ad_eval.proofs.EnterLemmas.{answer_there_none, answer_there_some, answers_literal, counts_entered}
use Rattle.ad_eval.proofs.EnterLemmas.{counts_equal, counts_kept, counts_there, inner_work, keeps}
use Rattle.ad_eval.proofs.EnterLemmas.{ready_there, recalls, world_has, world_there}
use Rattle.ad_eval.proofs.TopLemmas.{scene_world}
use Rattle.ad_eval.proofs.+evaluation.Goals as goal

pub evaluation::evaluate-returns-in-Literal : goal.evaluation::evaluate-returns-in-Literal
evaluation::evaluate-returns-in-Literal g t c =
    let s = c.args.scene.now in
    let w = world_in s in
    let g0 = c.args.guard.now in
    let n0 = c.args.entry.now in
    let e = tree c.args.expr.now in
    let is = shape-Literal c.args.expr.now c.in-Literal.lit c.in-Literal.is in
    record {
      answer =
          finishes_at_once w s.left (values_in s e) g0 (plain_of_lit c.in-Literal.lit) c.literal.result c.requires (λ n. in_literal s e n c.in-Literal.lit is)
          c.literal.ensures;
      counted = counts_same w n0 g0;
    }

pub evaluation::evaluate-returns-in-Frame : goal.evaluation::evaluate-returns-in-Frame
evaluation::evaluate-returns-in-Frame g t c =
    let s = c.args.scene.now in
    let w = world_in s in
    let g0 = c.args.guard.now in
    let n0 = c.args.entry.now in
    let e = tree c.args.expr.now in
    let is = shape-Frame c.args.expr.now c.in-Frame.frame c.in-Frame.is in
    record {
      answer =
          finishes w s.left (values_in s e) g0 g0 (values_in s e) 0 c.nested_ad.result
          (begins w s.left (values_in s e) (values_in s e) g0 c.requires (λ n. refl))
          (λ n. in_frame s e n c.in-Frame.frame is ∙ ap Some (sym c.nested_ad.ensures.value)) c.nested_ad.ensures.height;
      counted = counts_same w n0 g0;
    }

pub evaluation::evaluate-follow-requires : goal.evaluation::evaluate-follow-requires
evaluation::evaluate-follow-requires g t c κs within =
    let s = c.args.scene.now in
    let w = world_in s in
    let g0 = c.args.guard.now in
    let n0 = c.args.entry.now in
    let e = tree c.args.expr.now in
    let x = c.bytes.result.now in
    let r = c.look_up-named.result in
    let is = shape-Name c.args.expr.now c.in-Name.scope c.in-Name.name x c.in-Name.is c.bytes.ensures in
    let same = λ (n : ℕ). in_name s e n c.in-Name.scope x is ∙ sym (c.look_up-named.ensures.value (value_at n w)) in (
      omega (arith, c.decreases, size-positive e),
      (
        within,
        (c.look_up-named.ensures.there, ready_as w (values_in s e) (λ n. value_of (value_at n w) r) g0 same c.requires),
      ),
    )

pub evaluation::evaluate-returns-in-Name : goal.evaluation::evaluate-returns-in-Name
evaluation::evaluate-returns-in-Name g t c =
    let s = c.args.scene.now in
    let w = world_in s in
    let g0 = c.args.guard.now in
    let n0 = c.args.entry.now in
    let e = tree c.args.expr.now in
    let x = c.bytes.result.now in
    let r = c.look_up-named.result in
    let is = shape-Name c.args.expr.now c.in-Name.scope c.in-Name.name x c.in-Name.is c.bytes.ensures in
    let same = λ (n : ℕ). in_name s e n c.in-Name.scope x is ∙ sym (c.look_up-named.ensures.value (value_at n w)) in
    record {
      answer =
          answers_of w s.left (values_in s e) (λ n. value_of (value_at n w) r) g0 c.follow.new.guard c.follow.result same c.follow.ensures.answer;
      counted =
          c.follow.ensures.counted;
    }

pub evaluation::evaluate-chain-requires : goal.evaluation::evaluate-chain-requires
evaluation::evaluate-chain-requires g t c κs within =
    let s = c.args.scene.now in
    let w = world_in s in
    let g0 = c.args.guard.now in
    let n0 = c.args.entry.now in
    let e = tree c.args.expr.now in
    let ts = pack (trees c.in-And.items) in
    let is = shape-And c.args.expr.now c.in-And.items c.in-And.is in
    let same = λ (n : ℕ). in_all s e n ts is in
    (omega (arith, c.decreases, ap size is), (within, ready_as w (values_in s e) (λ n. conjunction (boolean true) (results_in s ts n)) g0 same c.requires))

pub evaluation::evaluate-returns-in-And : goal.evaluation::evaluate-returns-in-And
evaluation::evaluate-returns-in-And g t c =
    let s = c.args.scene.now in
    let w = world_in s in
    let g0 = c.args.guard.now in
    let n0 = c.args.entry.now in
    let e = tree c.args.expr.now in
    let ts = pack (trees c.in-And.items) in
    let is = shape-And c.args.expr.now c.in-And.items c.in-And.is in
    let same = λ (n : ℕ). in_all s e n ts is in
    record {
      answer =
          answers_of w s.left (values_in s e) (λ n. conjunction (boolean true) (results_in s ts n)) g0 c.chain.new.guard c.chain.result same
          c.chain.ensures.answer;
      counted = c.chain.ensures.counted;
    }

pub evaluation::evaluate-chain-requires-in-Or : goal.evaluation::evaluate-chain-requires-in-Or
evaluation::evaluate-chain-requires-in-Or g t c κs within =
    let s = c.args.scene.now in
    let w = world_in s in
    let g0 = c.args.guard.now in
    let n0 = c.args.entry.now in
    let e = tree c.args.expr.now in
    let ts = pack (trees c.in-Or.items) in
    let is = shape-Or c.args.expr.now c.in-Or.items c.in-Or.is in
    let same = λ (n : ℕ). in_any s e n ts is in
    (omega (arith, c.decreases, ap size is), (within, ready_as w (values_in s e) (λ n. disjunction (boolean false) (results_in s ts n)) g0 same c.requires))

pub evaluation::evaluate-returns-in-Or : goal.evaluation::evaluate-returns-in-Or
evaluation::evaluate-returns-in-Or g t c =
    let s = c.args.scene.now in
    let w = world_in s in
    let g0 = c.args.guard.now in
    let n0 = c.args.entry.now in
    let e = tree c.args.expr.now in
    let ts = pack (trees c.in-Or.items) in
    let is = shape-Or c.args.expr.now c.in-Or.items c.in-Or.is in
    let same = λ (n : ℕ). in_any s e n ts is in
    record {
      answer =
          answers_of w s.left (values_in s e) (λ n. disjunction (boolean false) (results_in s ts n)) g0 c.chain-in-Or.new.guard c.chain-in-Or.result same
          c.chain-in-Or.ensures.answer;
      counted = c.chain-in-Or.ensures.counted;
    }

pub evaluation::evaluate-conditional-requires : goal.evaluation::evaluate-conditional-requires
evaluation::evaluate-conditional-requires g t c κs within =
    let s = c.args.scene.now in
    let w = world_in s in
    let g0 = c.args.guard.now in
    let n0 = c.args.entry.now in
    let e = tree c.args.expr.now in
    let a = tree c.deref-in-Cond.result.now in
    let b = tree c.deref-in-Cond-2.result.now in
    let d = tree c.deref-in-Cond-3.result.now in
    let is =
    shape-Cond c.args.expr.now c.in-Cond.condition c.in-Cond.first c.in-Cond.second c.deref-in-Cond.result.now c.deref-in-Cond-2.result.now
    c.deref-in-Cond-3.result.now c.in-Cond.is c.deref-in-Cond.ensures c.deref-in-Cond-2.ensures c.deref-in-Cond-3.ensures in
    let same = λ (n : ℕ). in_choice s e n (three a b d) is in
    (omega (arith, c.decreases, ap size is), (within, ready_as w (values_in s e) (λ n. conditional (results_in s (three a b d) n)) g0 same c.requires))

pub evaluation::evaluate-returns-in-Cond : goal.evaluation::evaluate-returns-in-Cond
evaluation::evaluate-returns-in-Cond g t c =
    let s = c.args.scene.now in
    let w = world_in s in
    let g0 = c.args.guard.now in
    let n0 = c.args.entry.now in
    let e = tree c.args.expr.now in
    let a = tree c.deref-in-Cond.result.now in
    let b = tree c.deref-in-Cond-2.result.now in
    let d = tree c.deref-in-Cond-3.result.now in
    let is =
    shape-Cond c.args.expr.now c.in-Cond.condition c.in-Cond.first c.in-Cond.second c.deref-in-Cond.result.now c.deref-in-Cond-2.result.now
    c.deref-in-Cond-3.result.now c.in-Cond.is c.deref-in-Cond.ensures c.deref-in-Cond-2.ensures c.deref-in-Cond-3.ensures in
    let same = λ (n : ℕ). in_choice s e n (three a b d) is in
    record {
      answer =
          answers_of w s.left (values_in s e) (λ n. conditional (results_in s (three a b d) n)) g0 c.conditional.new.guard c.conditional.result same
          c.conditional.ensures.answer;
      counted = c.conditional.ensures.counted;
    }

pub evaluation::evaluate-call_function-requires : goal.evaluation::evaluate-call_function-requires
evaluation::evaluate-call_function-requires g t c κs within =
    let s = c.args.scene.now in
    let w = world_in s in
    let g0 = c.args.guard.now in
    let n0 = c.args.entry.now in
    let e = tree c.args.expr.now in
    let x = c.bytes-in-Call.result.now in
    let items = c.deref-in-Call.result.now in
    let ts = pack (trees items) in
    let is = shape-Call c.args.expr.now c.in-Call.name c.in-Call.items x items c.in-Call.is c.bytes-in-Call.ensures c.deref-in-Call.ensures in
    let same = λ (n : ℕ). in_call s e n x ts is in
    (omega (arith, c.decreases, ap size is), (within, ready_as w (values_in s e) (λ n. called w x (results_in s ts n)) g0 same c.requires))

pub evaluation::evaluate-returns-in-Call : goal.evaluation::evaluate-returns-in-Call
evaluation::evaluate-returns-in-Call g t c =
    let s = c.args.scene.now in
    let w = world_in s in
    let g0 = c.args.guard.now in
    let n0 = c.args.entry.now in
    let e = tree c.args.expr.now in
    let x = c.bytes-in-Call.result.now in
    let items = c.deref-in-Call.result.now in
    let ts = pack (trees items) in
    let is = shape-Call c.args.expr.now c.in-Call.name c.in-Call.items x items c.in-Call.is c.bytes-in-Call.ensures c.deref-in-Call.ensures in
    let same = λ (n : ℕ). in_call s e n x ts is in
    record {
      answer =
          answers_of w s.left (values_in s e) (λ n. called w x (results_in s ts n)) g0 c.call_function.new.guard c.call_function.result same
          c.call_function.ensures.answer;
      counted = c.call_function.ensures.counted;
    }

pub evaluation::evaluate-unary_operation-requires : goal.evaluation::evaluate-unary_operation-requires
evaluation::evaluate-unary_operation-requires g t c κs within =
    let s = c.args.scene.now in
    let w = world_in s in
    let g0 = c.args.guard.now in
    let e = tree c.args.expr.now in
    let op = c.in-Unary.op in
    let a = tree c.deref.result.now in
    let f = λ (n : ℕ). unary_in s op a n in
    let is = shape-Unary c.args.expr.now op c.in-Unary.a c.deref.result.now c.in-Unary.is c.deref.ensures in
    (omega (arith, c.decreases, ap size is), (within, ready_as w (values_in s e) f g0 (λ n. in_unary s e n op a is) c.requires))

pub evaluation::evaluate-returns-in-Unary : goal.evaluation::evaluate-returns-in-Unary
evaluation::evaluate-returns-in-Unary g t c =
    let s = c.args.scene.now in
    let w = world_in s in
    let g0 = c.args.guard.now in
    let e = tree c.args.expr.now in
    let op = c.in-Unary.op in
    let a = tree c.deref.result.now in
    let f = λ (n : ℕ). unary_in s op a n in
    let is = shape-Unary c.args.expr.now op c.in-Unary.a c.deref.result.now c.in-Unary.is c.deref.ensures in
    let g1 = c.unary_operation.new.guard in
    record {
      answer =
          answers_of w s.left (values_in s e) f g0 g1 c.unary_operation.result (λ n. in_unary s e n op a is) c.unary_operation.ensures.answer;
      counted =
          c.unary_operation.ensures.counted;
    }

pub evaluation::evaluate-binary_operation-requires : goal.evaluation::evaluate-binary_operation-requires
evaluation::evaluate-binary_operation-requires g t c κs within =
    let s = c.args.scene.now in
    let w = world_in s in
    let g0 = c.args.guard.now in
    let e = tree c.args.expr.now in
    let op = c.in-Binary.op in
    let a = tree c.deref-in-Binary.result.now in
    let b = tree c.deref-in-Binary-2.result.now in
    let is =
    shape-Binary c.args.expr.now op c.in-Binary.a c.in-Binary.b c.deref-in-Binary.result.now c.deref-in-Binary-2.result.now c.in-Binary.is
    c.deref-in-Binary.ensures c.deref-in-Binary-2.ensures in
    let f = λ (n : ℕ). binary_in s op a b n in
    (omega (arith, c.decreases, ap size is), (within, ready_as w (values_in s e) f g0 (λ n. in_binary s e n op a b is) c.requires))

pub evaluation::evaluate-returns-in-Binary : goal.evaluation::evaluate-returns-in-Binary
evaluation::evaluate-returns-in-Binary g t c =
    let s = c.args.scene.now in
    let w = world_in s in
    let g0 = c.args.guard.now in
    let e = tree c.args.expr.now in
    let op = c.in-Binary.op in
    let a = tree c.deref-in-Binary.result.now in
    let b = tree c.deref-in-Binary-2.result.now in
    let is =
    shape-Binary c.args.expr.now op c.in-Binary.a c.in-Binary.b c.deref-in-Binary.result.now c.deref-in-Binary-2.result.now c.in-Binary.is
    c.deref-in-Binary.ensures c.deref-in-Binary-2.ensures in
    let f = λ (n : ℕ). binary_in s op a b n in
    let g1 = c.binary_operation.new.guard in
    record {
      answer =
          answers_of w s.left (values_in s e) f g0 g1 c.binary_operation.result (λ n. in_binary s e n op a b is) c.binary_operation.ensures.answer;
      counted =
          c.binary_operation.ensures.counted;
    }

pub evaluation::evaluate-selection-requires : goal.evaluation::evaluate-selection-requires
evaluation::evaluate-selection-requires g t c κs within =
    let s = c.args.scene.now in
    let w = world_in s in
    let g0 = c.args.guard.now in
    let e = tree c.args.expr.now in
    let x = c.bytes-in-Select.result.now in
    let a = tree c.deref-in-Select.result.now in
    let is =
    shape-Select c.args.expr.now c.in-Select.base c.in-Select.name c.deref-in-Select.result.now x c.in-Select.is c.deref-in-Select.ensures
    c.bytes-in-Select.ensures in
    let f = λ (n : ℕ). selected_in s x a n in
    (omega (arith, c.decreases, ap size is), (within, ready_as w (values_in s e) f g0 (λ n. in_select s e n x a is) c.requires))

pub evaluation::evaluate-returns-in-Select : goal.evaluation::evaluate-returns-in-Select
evaluation::evaluate-returns-in-Select g t c =
    let s = c.args.scene.now in
    let w = world_in s in
    let g0 = c.args.guard.now in
    let e = tree c.args.expr.now in
    let x = c.bytes-in-Select.result.now in
    let a = tree c.deref-in-Select.result.now in
    let is =
    shape-Select c.args.expr.now c.in-Select.base c.in-Select.name c.deref-in-Select.result.now x c.in-Select.is c.deref-in-Select.ensures
    c.bytes-in-Select.ensures in
    let f = λ (n : ℕ). selected_in s x a n in
    let g1 = c.selection.new.guard in
    record {
      answer =
          answers_of w s.left (values_in s e) f g0 g1 c.selection.result (λ n. in_select s e n x a is) c.selection.ensures.answer;
      counted =
          c.selection.ensures.counted;
    }

pub evaluation::evaluate-subscription-requires : goal.evaluation::evaluate-subscription-requires
evaluation::evaluate-subscription-requires g t c κs within =
    let s = c.args.scene.now in
    let w = world_in s in
    let g0 = c.args.guard.now in
    let e = tree c.args.expr.now in
    let a = tree c.deref-in-Subscript.result.now in
    let b = tree c.deref-in-Subscript-2.result.now in
    let is =
    shape-Subscript c.args.expr.now c.in-Subscript.base c.in-Subscript.index c.deref-in-Subscript.result.now c.deref-in-Subscript-2.result.now
    c.in-Subscript.is c.deref-in-Subscript.ensures c.deref-in-Subscript-2.ensures in
    let f = λ (n : ℕ). subscripted_in s a b n in
    (omega (arith, c.decreases, ap size is), (within, ready_as w (values_in s e) f g0 (λ n. in_subscript s e n a b is) c.requires))

pub evaluation::evaluate-returns-in-Subscript : goal.evaluation::evaluate-returns-in-Subscript
evaluation::evaluate-returns-in-Subscript g t c =
    let s = c.args.scene.now in
    let w = world_in s in
    let g0 = c.args.guard.now in
    let e = tree c.args.expr.now in
    let a = tree c.deref-in-Subscript.result.now in
    let b = tree c.deref-in-Subscript-2.result.now in
    let is =
    shape-Subscript c.args.expr.now c.in-Subscript.base c.in-Subscript.index c.deref-in-Subscript.result.now c.deref-in-Subscript-2.result.now
    c.in-Subscript.is c.deref-in-Subscript.ensures c.deref-in-Subscript-2.ensures in
    let f = λ (n : ℕ). subscripted_in s a b n in
    let g1 = c.subscription.new.guard in
    record {
      answer =
          answers_of w s.left (values_in s e) f g0 g1 c.subscription.result (λ n. in_subscript s e n a b is) c.subscription.ensures.answer;
      counted =
          c.subscription.ensures.counted;
    }

pub evaluation::evaluate-list_literal-requires : goal.evaluation::evaluate-list_literal-requires
evaluation::evaluate-list_literal-requires g t c κs within =
    let s = c.args.scene.now in
    let w = world_in s in
    let g0 = c.args.guard.now in
    let e = tree c.args.expr.now in
    let ts = pack (trees c.in-List.items) in
    let is = shape-List c.args.expr.now c.in-List.items c.in-List.is in
    let f = λ (n : ℕ). listed_in s ts n in
    (omega (arith, c.decreases, ap size is), (within, ready_as w (values_in s e) f g0 (λ n. in_list s e n ts is) c.requires))

pub evaluation::evaluate-returns-in-List : goal.evaluation::evaluate-returns-in-List
evaluation::evaluate-returns-in-List g t c =
    let s = c.args.scene.now in
    let w = world_in s in
    let g0 = c.args.guard.now in
    let e = tree c.args.expr.now in
    let ts = pack (trees c.in-List.items) in
    let is = shape-List c.args.expr.now c.in-List.items c.in-List.is in
    let f = λ (n : ℕ). listed_in s ts n in
    let g1 = c.list_literal.new.guard in
    record {
      answer =
          answers_of w s.left (values_in s e) f g0 g1 c.list_literal.result (λ n. in_list s e n ts is) c.list_literal.ensures.answer;
      counted =
          c.list_literal.ensures.counted;
    }

pub operands::unary_operation-evaluate-requires : goal.operands::unary_operation-evaluate-requires
operands::unary_operation-evaluate-requires g t c κs within =
    let s = c.args.scene.now in
    let w = world_in s in
    let g0 = c.args.guard.now in
    let n0 = c.args.entry.now in
    let op = c.args.op in
    let a = tree c.args.a.now in
    let f = λ (n : ℕ). unary_in s op a n in
    let p0 = begins w s.left f (λ n. option_map (unary_value op) (values_in s a n)) g0 c.requires (λ n. refl) in
    (omega (arith, c.decreases), (within, mapped_part_ready w s.left f g0 g0 (unary_value op) (values_in s a) 0 p0))

pub operands::unary_operation-returns : goal.operands::unary_operation-returns
operands::unary_operation-returns g t c =
    let s = c.args.scene.now in
    let w = world_in s in
    let g0 = c.args.guard.now in
    let n0 = c.args.entry.now in
    let op = c.args.op in
    let a = tree c.args.a.now in
    let f = λ (n : ℕ). unary_in s op a n in
    let p0 = begins w s.left f (λ n. option_map (unary_value op) (values_in s a n)) g0 c.requires (λ n. refl) in
    let g1 = c.evaluate.new.guard in
    let o = c.in_ok-operand.operand in
    record {
      answer =
          finishes_mapped w s.left f g0 g0 g1 (unary_value op) (values_in s a) 0 o c.unary.result p0 c.in_ok-operand.ensures.answer c.unary.ensures.value
          (omega (arith, c.unary.ensures.height));
      counted = c.evaluate.ensures.counted;
    }

pub operands::unary_operation-returns-in_err-operand : goal.operands::unary_operation-returns-in_err-operand
operands::unary_operation-returns-in_err-operand g t c =
    let s = c.args.scene.now in
    let w = world_in s in
    let g0 = c.args.guard.now in
    let n0 = c.args.entry.now in
    let op = c.args.op in
    let a = tree c.args.a.now in
    let f = λ (n : ℕ). unary_in s op a n in
    let p0 = begins w s.left f (λ n. option_map (unary_value op) (values_in s a n)) g0 c.requires (λ n. refl) in
    let g1 = c.evaluate.new.guard in
    record {
      answer =
          hands_on w s.left f g0 g1 c.from_residual.result c.in_err-operand.field-0.0 c.from_residual.ensures.0 c.from_residual.ensures.1
          (mapped_part_fails w s.left f g0 g0 g1 g1 (unary_value op) (values_in s a) 0 c.in_err-operand.field-0.0 p0 c.in_err-operand.ensures.answer);
      counted =
          c.evaluate.ensures.counted;
    }

pub operands::binary_operation-evaluate-requires : goal.operands::binary_operation-evaluate-requires
operands::binary_operation-evaluate-requires g t c κs within =
    let s = c.args.scene.now in
    let w = world_in s in
    let g0 = c.args.guard.now in
    let n0 = c.args.entry.now in
    let op = c.args.op in
    let a = tree c.args.a.now in
    let b = tree c.args.b.now in
    let f = λ (n : ℕ). binary_in s op a b n in
    let p0 = begins w s.left f (λ n. option_and_then (λ x. option_map (binary_value op x) (values_in s b n)) (values_in s a n)) g0 c.requires (λ n. refl) in
    (omega (arith, c.decreases), (within, part_ready w s.left f g0 g0 (λ n x. option_map (binary_value op x) (values_in s b n)) (values_in s a) 0 p0))

pub operands::binary_operation-evaluate-requires-2 : goal.operands::binary_operation-evaluate-requires-2
operands::binary_operation-evaluate-requires-2 g t c κs within =
    let s = c.args.scene.now in
    let w = world_in s in
    let g0 = c.args.guard.now in
    let n0 = c.args.entry.now in
    let op = c.args.op in
    let a = tree c.args.a.now in
    let b = tree c.args.b.now in
    let f = λ (n : ℕ). binary_in s op a b n in
    let p0 = begins w s.left f (λ n. option_and_then (λ x. option_map (binary_value op x) (values_in s b n)) (values_in s a n)) g0 c.requires (λ n. refl) in
    let g1 = c.evaluate.new.guard in
    let o1 = c.in_ok-left.left in
    let some1 = c.in_ok-left.ensures.answer in
    let p1 = part_done w s.left f g0 g0 g1 (λ n x. option_map (binary_value op x) (values_in s b n)) (values_in s a) 0 o1 p0 some1 in
    let h1 = max 0 o1.height in
    (omega (arith, c.decreases), (within, mapped_part_ready w s.left f g0 g1 (binary_value op (plain o1.value)) (values_in s b) h1 p1))

pub operands::binary_operation-returns-in_err-left : goal.operands::binary_operation-returns-in_err-left
operands::binary_operation-returns-in_err-left g t c =
    let s = c.args.scene.now in
    let w = world_in s in
    let g0 = c.args.guard.now in
    let n0 = c.args.entry.now in
    let op = c.args.op in
    let a = tree c.args.a.now in
    let b = tree c.args.b.now in
    let f = λ (n : ℕ). binary_in s op a b n in
    let p0 = begins w s.left f (λ n. option_and_then (λ x. option_map (binary_value op x) (values_in s b n)) (values_in s a n)) g0 c.requires (λ n. refl) in
    let g1 = c.evaluate.new.guard in
    record {
      answer =
          hands_on w s.left f g0 g1 c.from_residual.result c.in_err-left.field-0.0 c.from_residual.ensures.0 c.from_residual.ensures.1
          (part_fails w s.left f g0 g0 g1 g1 (λ n x. option_map (binary_value op x) (values_in s b n)) (values_in s a) 0 c.in_err-left.field-0.0 p0
          c.in_err-left.ensures.answer);
      counted = c.evaluate.ensures.counted;
    }

pub operands::binary_operation-returns-in-Err : goal.operands::binary_operation-returns-in-Err
operands::binary_operation-returns-in-Err g t c =
    let s = c.args.scene.now in
    let w = world_in s in
    let g0 = c.args.guard.now in
    let n0 = c.args.entry.now in
    let op = c.args.op in
    let a = tree c.args.a.now in
    let b = tree c.args.b.now in
    let f = λ (n : ℕ). binary_in s op a b n in
    let p0 = begins w s.left f (λ n. option_and_then (λ x. option_map (binary_value op x) (values_in s b n)) (values_in s a n)) g0 c.requires (λ n. refl) in
    let g1 = c.evaluate.new.guard in
    let o1 = c.in_ok-left.left in
    let some1 = c.in_ok-left.ensures.answer in
    let p1 = part_done w s.left f g0 g0 g1 (λ n x. option_map (binary_value op x) (values_in s b n)) (values_in s a) 0 o1 p0 some1 in
    let h1 = max 0 o1.height in
    let g2 = c.evaluate-2.new.guard in
    record {
      answer =
          mapped_part_fails w s.left f g0 g1 g2 g2 (binary_value op (plain o1.value)) (values_in s b) h1 c.in-Err.stop p1 c.in-Err.ensures.answer;
      counted =
          counts_then w n0 c.evaluate.new.entry c.evaluate-2.new.entry g0 g1 g2 c.evaluate.ensures.counted c.evaluate-2.ensures.counted;
    }

pub operands::binary_operation-returns-in-Ok : goal.operands::binary_operation-returns-in-Ok
operands::binary_operation-returns-in-Ok g t c =
    let s = c.args.scene.now in
    let w = world_in s in
    let g0 = c.args.guard.now in
    let n0 = c.args.entry.now in
    let op = c.args.op in
    let a = tree c.args.a.now in
    let b = tree c.args.b.now in
    let f = λ (n : ℕ). binary_in s op a b n in
    let p0 = begins w s.left f (λ n. option_and_then (λ x. option_map (binary_value op x) (values_in s b n)) (values_in s a n)) g0 c.requires (λ n. refl) in
    let g1 = c.evaluate.new.guard in
    let o1 = c.in_ok-left.left in
    let some1 = c.in_ok-left.ensures.answer in
    let p1 = part_done w s.left f g0 g0 g1 (λ n x. option_map (binary_value op x) (values_in s b n)) (values_in s a) 0 o1 p0 some1 in
    let h1 = max 0 o1.height in
    let g2 = c.evaluate-2.new.guard in
    record {
      answer =
          finishes_mapped w s.left f g0 g1 g2 (binary_value op (plain o1.value)) (values_in s b) h1 c.in-Ok.right c.binary.result p1 c.in-Ok.ensures.answer
          c.binary.ensures.value (omega (arith, c.binary.ensures.height));
      counted =
          counts_then w n0 c.evaluate.new.entry c.evaluate-2.new.entry g0 g1 g2 c.evaluate.ensures.counted c.evaluate-2.ensures.counted;
    }

pub operands::selection-evaluate-requires : goal.operands::selection-evaluate-requires
operands::selection-evaluate-requires g t c κs within =
    let s = c.args.scene.now in
    let w = world_in s in
    let g0 = c.args.guard.now in
    let n0 = c.args.entry.now in
    let x = c.args.name.now in
    let a = tree c.args.base.now in
    let f = λ (n : ℕ). selected_in s x a n in
    let p0 = begins w s.left f (λ n. option_and_then (selected (attribute_value (value_at n w) w) x) (values_in s a n)) g0 c.requires (λ n. refl) in
    (omega (arith, c.decreases), (within, part_ready w s.left f g0 g0 (λ n. selected (attribute_value (value_at n w) w) x) (values_in s a) 0 p0))

pub operands::selection-follow-requires : goal.operands::selection-follow-requires
operands::selection-follow-requires g t c κs within =
    let s = c.args.scene.now in
    let w = world_in s in
    let g0 = c.args.guard.now in
    let n0 = c.args.entry.now in
    let x = c.args.name.now in
    let a = tree c.args.base.now in
    let f = λ (n : ℕ). selected_in s x a n in
    let p0 = begins w s.left f (λ n. option_and_then (selected (attribute_value (value_at n w) w) x) (values_in s a n)) g0 c.requires (λ n. refl) in
    let g1 = c.evaluate.new.guard in
    let o1 = c.in_ok-base.base in
    let some1 = c.in_ok-base.ensures.answer in
    let p1 = part_done w s.left f g0 g0 g1 (λ n. selected (attribute_value (value_at n w) w) x) (values_in s a) 0 o1 p0 some1 in
    let h1 = max 0 o1.height in
    let r = c.select-selected.result in
    let p2 =
    rewritten w f s.left g0 g1 (λ n. selected (attribute_value (value_at n w) w) x (plain o1.value)) (λ n. value_of (value_at n w) r) h1
    (λ n. sym (c.select-selected.ensures.value (value_at n w))) p1 in
    (omega (arith, c.decreases), (within, (c.select-selected.ensures.there, rest_ready w s.left f g0 g1 (λ n. value_of (value_at n w) r) h1 p2)))

pub operands::selection-returns : goal.operands::selection-returns
operands::selection-returns g t c =
    let s = c.args.scene.now in
    let w = world_in s in
    let g0 = c.args.guard.now in
    let n0 = c.args.entry.now in
    let x = c.args.name.now in
    let a = tree c.args.base.now in
    let f = λ (n : ℕ). selected_in s x a n in
    let p0 = begins w s.left f (λ n. option_and_then (selected (attribute_value (value_at n w) w) x) (values_in s a n)) g0 c.requires (λ n. refl) in
    let g1 = c.evaluate.new.guard in
    let o1 = c.in_ok-base.base in
    let some1 = c.in_ok-base.ensures.answer in
    let p1 = part_done w s.left f g0 g0 g1 (λ n. selected (attribute_value (value_at n w) w) x) (values_in s a) 0 o1 p0 some1 in
    let h1 = max 0 o1.height in
    let r = c.select-selected.result in
    let p2 =
    rewritten w f s.left g0 g1 (λ n. selected (attribute_value (value_at n w) w) x (plain o1.value)) (λ n. value_of (value_at n w) r) h1
    (λ n. sym (c.select-selected.ensures.value (value_at n w))) p1 in
    let g2 = c.follow.new.guard in
    record {
      answer =
          rest_ends w s.left f g0 g1 g2 (λ n. value_of (value_at n w) r) h1 o1.height c.follow.result c.at_least.result (omega arith) p2 c.follow.ensures.answer
          c.at_least.ensures;
      counted = counts_then w n0 c.evaluate.new.entry c.follow.new.entry g0 g1 g2 c.evaluate.ensures.counted c.follow.ensures.counted;
    }

pub operands::selection-returns-in_err-base : goal.operands::selection-returns-in_err-base
operands::selection-returns-in_err-base g t c =
    let s = c.args.scene.now in
    let w = world_in s in
    let g0 = c.args.guard.now in
    let n0 = c.args.entry.now in
    let x = c.args.name.now in
    let a = tree c.args.base.now in
    let f = λ (n : ℕ). selected_in s x a n in
    let p0 = begins w s.left f (λ n. option_and_then (selected (attribute_value (value_at n w) w) x) (values_in s a n)) g0 c.requires (λ n. refl) in
    let g1 = c.evaluate.new.guard in
    record {
      answer =
          hands_on w s.left f g0 g1 c.from_residual.result c.in_err-base.field-0.0 c.from_residual.ensures.0 c.from_residual.ensures.1
          (part_fails w s.left f g0 g0 g1 g1 (λ n. selected (attribute_value (value_at n w) w) x) (values_in s a) 0 c.in_err-base.field-0.0 p0
          c.in_err-base.ensures.answer);
      counted = c.evaluate.ensures.counted;
    }

pub operands::subscription-evaluate-requires : goal.operands::subscription-evaluate-requires
operands::subscription-evaluate-requires g t c κs within =
    let s = c.args.scene.now in
    let w = world_in s in
    let g0 = c.args.guard.now in
    let n0 = c.args.entry.now in
    let a = tree c.args.base.now in
    let b = tree c.args.index.now in
    let f = λ (n : ℕ). subscripted_in s a b n in
    let p0 =
    begins w s.left f (λ n. option_and_then (λ y. option_and_then (subscripted (attribute_value (value_at n w) w) y) (values_in s b n)) (values_in s a n))
    g0 c.requires (λ n. refl) in (
      omega (arith, c.decreases),
      (
        within,
        part_ready w s.left f g0 g0 (λ n y. option_and_then (subscripted (attribute_value (value_at n w) w) y)
            (values_in s b n)) (values_in s a) 0 p0,
      ),
    )

pub operands::subscription-evaluate-requires-2 : goal.operands::subscription-evaluate-requires-2
operands::subscription-evaluate-requires-2 g t c κs within =
    let s = c.args.scene.now in
    let w = world_in s in
    let g0 = c.args.guard.now in
    let n0 = c.args.entry.now in
    let a = tree c.args.base.now in
    let b = tree c.args.index.now in
    let f = λ (n : ℕ). subscripted_in s a b n in
    let p0 =
    begins w s.left f (λ n. option_and_then (λ y. option_and_then (subscripted (attribute_value (value_at n w) w) y) (values_in s b n)) (values_in s a n))
    g0 c.requires (λ n. refl) in
    let g1 = c.evaluate.new.guard in
    let o1 = c.in_ok-base.base in
    let some1 = c.in_ok-base.ensures.answer in
    let p1 =
    part_done w s.left f g0 g0 g1 (λ n y. option_and_then (subscripted (attribute_value (value_at n w) w) y) (values_in s b n)) (values_in s a) 0 o1 p0
    some1 in
    let h1 = max 0 o1.height in (
      omega (arith, c.decreases),
      (
        within,
        part_ready w s.left f g0 g1 (λ n. subscripted (attribute_value (value_at n w) w) (plain o1.value)) (values_in s
            b) h1 p1,
      ),
    )

pub operands::subscription-follow-requires : goal.operands::subscription-follow-requires
operands::subscription-follow-requires g t c κs within =
    let s = c.args.scene.now in
    let w = world_in s in
    let g0 = c.args.guard.now in
    let n0 = c.args.entry.now in
    let a = tree c.args.base.now in
    let b = tree c.args.index.now in
    let f = λ (n : ℕ). subscripted_in s a b n in
    let p0 =
    begins w s.left f (λ n. option_and_then (λ y. option_and_then (subscripted (attribute_value (value_at n w) w) y) (values_in s b n)) (values_in s a n))
    g0 c.requires (λ n. refl) in
    let g1 = c.evaluate.new.guard in
    let o1 = c.in_ok-base.base in
    let some1 = c.in_ok-base.ensures.answer in
    let p1 =
    part_done w s.left f g0 g0 g1 (λ n y. option_and_then (subscripted (attribute_value (value_at n w) w) y) (values_in s b n)) (values_in s a) 0 o1 p0
    some1 in
    let h1 = max 0 o1.height in
    let g2 = c.evaluate-2.new.guard in
    let o2 = c.in-Ok.index in
    let some2 = c.in-Ok.ensures.answer in
    let p2 = part_done w s.left f g0 g1 g2 (λ n. subscripted (attribute_value (value_at n w) w) (plain o1.value)) (values_in s b) h1 o2 p1 some2 in
    let h2 = max h1 o2.height in
    let r = c.in_ok-element.element in
    let p3 =
    rewritten w f s.left g0 g2 (λ n. subscripted (attribute_value (value_at n w) w) (plain o1.value) (plain o2.value)) (λ n. value_of (value_at n w) r) h2
    (λ n. sym (c.in_ok-element.ensures.value (value_at n w))) p2 in
    (omega (arith, c.decreases), (within, (c.in_ok-element.ensures.there, rest_ready w s.left f g0 g2 (λ n. value_of (value_at n w) r) h2 p3)))

pub operands::subscription-returns : goal.operands::subscription-returns
operands::subscription-returns g t c =
    let s = c.args.scene.now in
    let w = world_in s in
    let g0 = c.args.guard.now in
    let n0 = c.args.entry.now in
    let a = tree c.args.base.now in
    let b = tree c.args.index.now in
    let f = λ (n : ℕ). subscripted_in s a b n in
    let p0 =
    begins w s.left f (λ n. option_and_then (λ y. option_and_then (subscripted (attribute_value (value_at n w) w) y) (values_in s b n)) (values_in s a n))
    g0 c.requires (λ n. refl) in
    let g1 = c.evaluate.new.guard in
    let o1 = c.in_ok-base.base in
    let some1 = c.in_ok-base.ensures.answer in
    let p1 =
    part_done w s.left f g0 g0 g1 (λ n y. option_and_then (subscripted (attribute_value (value_at n w) w) y) (values_in s b n)) (values_in s a) 0 o1 p0
    some1 in
    let h1 = max 0 o1.height in
    let g2 = c.evaluate-2.new.guard in
    let o2 = c.in-Ok.index in
    let some2 = c.in-Ok.ensures.answer in
    let p2 = part_done w s.left f g0 g1 g2 (λ n. subscripted (attribute_value (value_at n w) w) (plain o1.value)) (values_in s b) h1 o2 p1 some2 in
    let h2 = max h1 o2.height in
    let r = c.in_ok-element.element in
    let p3 =
    rewritten w f s.left g0 g2 (λ n. subscripted (attribute_value (value_at n w) w) (plain o1.value) (plain o2.value)) (λ n. value_of (value_at n w) r) h2
    (λ n. sym (c.in_ok-element.ensures.value (value_at n w))) p2 in
    let g3 = c.follow.new.guard in
    record {
      answer =
          rest_ends w s.left f g0 g2 g3 (λ n. value_of (value_at n w) r) h2 c.greater-height.result c.follow.result c.at_least.result
          (omega (arith, c.greater-height.ensures)) p3 c.follow.ensures.answer c.at_least.ensures;
      counted =
          counts_then w n0 c.evaluate-2.new.entry c.follow.new.entry g0 g2 g3
          (counts_then w n0 c.evaluate.new.entry c.evaluate-2.new.entry g0 g1 g2 c.evaluate.ensures.counted c.evaluate-2.ensures.counted)
          c.follow.ensures.counted;
    }

pub operands::subscription-returns-in_err-base : goal.operands::subscription-returns-in_err-base
operands::subscription-returns-in_err-base g t c =
    let s = c.args.scene.now in
    let w = world_in s in
    let g0 = c.args.guard.now in
    let n0 = c.args.entry.now in
    let a = tree c.args.base.now in
    let b = tree c.args.index.now in
    let f = λ (n : ℕ). subscripted_in s a b n in
    let p0 =
    begins w s.left f (λ n. option_and_then (λ y. option_and_then (subscripted (attribute_value (value_at n w) w) y) (values_in s b n)) (values_in s a n))
    g0 c.requires (λ n. refl) in
    let g1 = c.evaluate.new.guard in
    record {
      answer =
          hands_on w s.left f g0 g1 c.from_residual.result c.in_err-base.field-0.0 c.from_residual.ensures.0 c.from_residual.ensures.1
          (part_fails w s.left f g0 g0 g1 g1 (λ n y. option_and_then (subscripted (attribute_value (value_at n w) w) y) (values_in s b n)) (values_in s a) 0
          c.in_err-base.field-0.0 p0 c.in_err-base.ensures.answer);
      counted = c.evaluate.ensures.counted;
    }

pub operands::subscription-returns-in_err-element : goal.operands::subscription-returns-in_err-element
operands::subscription-returns-in_err-element g t c =
    let s = c.args.scene.now in
    let w = world_in s in
    let g0 = c.args.guard.now in
    let n0 = c.args.entry.now in
    let a = tree c.args.base.now in
    let b = tree c.args.index.now in
    let f = λ (n : ℕ). subscripted_in s a b n in
    let p0 =
    begins w s.left f (λ n. option_and_then (λ y. option_and_then (subscripted (attribute_value (value_at n w) w) y) (values_in s b n)) (values_in s a n))
    g0 c.requires (λ n. refl) in
    let g1 = c.evaluate.new.guard in
    let o1 = c.in_ok-base.base in
    let some1 = c.in_ok-base.ensures.answer in
    let p1 =
    part_done w s.left f g0 g0 g1 (λ n y. option_and_then (subscripted (attribute_value (value_at n w) w) y) (values_in s b n)) (values_in s a) 0 o1 p0
    some1 in
    let h1 = max 0 o1.height in
    let g2 = c.evaluate-2.new.guard in
    record {
      answer =
          hands_on w s.left f g0 g2 c.from_residual-in_err-element.result Stop.OutOfMemory c.from_residual-in_err-element.ensures.0
          c.from_residual-in_err-element.ensures.1 (stops_wanting w s.left f g0 g2 Stop.OutOfMemory refl);
      counted =
          counts_then w n0 c.evaluate.new.entry c.evaluate-2.new.entry g0 g1 g2 c.evaluate.ensures.counted c.evaluate-2.ensures.counted;
    }

pub operands::subscription-returns-in-Err : goal.operands::subscription-returns-in-Err
operands::subscription-returns-in-Err g t c =
    let s = c.args.scene.now in
    let w = world_in s in
    let g0 = c.args.guard.now in
    let n0 = c.args.entry.now in
    let a = tree c.args.base.now in
    let b = tree c.args.index.now in
    let f = λ (n : ℕ). subscripted_in s a b n in
    let p0 =
    begins w s.left f (λ n. option_and_then (λ y. option_and_then (subscripted (attribute_value (value_at n w) w) y) (values_in s b n)) (values_in s a n))
    g0 c.requires (λ n. refl) in
    let g1 = c.evaluate.new.guard in
    let o1 = c.in_ok-base.base in
    let some1 = c.in_ok-base.ensures.answer in
    let p1 =
    part_done w s.left f g0 g0 g1 (λ n y. option_and_then (subscripted (attribute_value (value_at n w) w) y) (values_in s b n)) (values_in s a) 0 o1 p0
    some1 in
    let h1 = max 0 o1.height in
    let g2 = c.evaluate-2.new.guard in
    record {
      answer =
          part_fails w s.left f g0 g1 g2 g2 (λ n. subscripted (attribute_value (value_at n w) w) (plain o1.value)) (values_in s b) h1 c.in-Err.stop p1
          c.in-Err.ensures.answer;
      counted =
          counts_then w n0 c.evaluate.new.entry c.evaluate-2.new.entry g0 g1 g2 c.evaluate.ensures.counted c.evaluate-2.ensures.counted;
    }

pub chains::list_literal-loop-i-init : goal.chains::list_literal-loop-i-init
chains::list_literal-loop-i-init g t c =
    let s = c.args.scene.now in
    let w = world_in s in
    let g0 = c.args.guard.now in
    let n0 = c.args.entry.now in
    let ts = trees c.args.items.now in
    let f = λ (n : ℕ). listed_in s (pack ts) n in
    let value = listed_with c.new-all.result.values in
    let rest = λ (n : ℕ). option_map value (all_demanded (results_in s (pack ts) n)) in
    let alike = λ (n : ℕ). mapped_alike list_value value (λ ps. sym (c.new-all.ensures.value ps)) (all_demanded (results_in s (pack ts) n)) in
    record {
      partly =
          subst (λ (h : ℕ). IsPartly w f s.left g0 g0 rest h) (sym c.new-all.ensures.height) (begins w s.left f rest g0 c.requires alike);
      counted =
          counts_same w n0 g0;
    }

pub chains::list_literal-returns : goal.chains::list_literal-returns
chains::list_literal-returns g t c =
    let s = c.args.scene.now in
    let w = world_in s in
    let g0 = c.args.guard.now in
    let n0 = c.args.entry.now in
    let ts = trees c.args.items.now in
    let f = λ (n : ℕ). listed_in s (pack ts) n in
    let g1 = c.loop-i.guard in
    let i = c.loop-i.i in
    let value = listed_with c.loop-i.all.values in
    let h = c.loop-i.all.height in
    let p0 = c.loop-i.invariant.partly in
    let rest = λ (n : ℕ). option_map value (all_demanded (results_in s (pack (drop i ts)) n)) in
    let past : length ts ≤ i = omega arith in
    record {
      answer =
          finishes_with w s.left f g0 g1 rest h (value []) c.value.result p0 (λ n. listed-end s ts i past n value) c.value.ensures;
      counted =
          c.loop-i.invariant.counted;
    }

pub chains::list_literal-evaluate-requires : goal.chains::list_literal-evaluate-requires
chains::list_literal-evaluate-requires g t c κs within =
    let s = c.args.scene.now in
    let w = world_in s in
    let g0 = c.args.guard.now in
    let n0 = c.args.entry.now in
    let ts = trees c.args.items.now in
    let f = λ (n : ℕ). listed_in s (pack ts) n in
    let g1 = c.loop-i.guard in
    let i = c.loop-i.i in
    let value = listed_with c.loop-i.all.values in
    let h = c.loop-i.all.height in
    let p0 = c.loop-i.invariant.partly in
    let rest = λ (n : ℕ). option_map value (all_demanded (results_in s (pack (drop i ts)) n)) in
    let a = tree c.at.result.now in
    let k = λ (n : ℕ) (p : Plain). option_map (λ ps. value (p ∷ ps)) (all_demanded (results_in s (pack (drop (i + 1) ts)) n)) in
    let p1 = rewritten w f s.left g0 g1 rest (λ n. option_and_then (k n) (values_in s a n)) h (λ n. listed-from s ts i a c.at.ensures n value) p0 in
    (omega (arith, c.decreases, size-at ts i a c.at.ensures), (within, part_ready w s.left f g0 g1 k (values_in s a) h p1))

pub chains::list_literal-returns-in_err-all : goal.chains::list_literal-returns-in_err-all
chains::list_literal-returns-in_err-all g t c =
    let s = c.args.scene.now in
    let w = world_in s in
    let g0 = c.args.guard.now in
    let n0 = c.args.entry.now in
    let ts = trees c.args.items.now in
    let f = λ (n : ℕ). listed_in s (pack ts) n in
    let g1 = c.loop-i.guard in
    let g2 = c.evaluate.new.guard in
    record {
      answer =
          hands_on w s.left f g0 g2 c.from_residual.result Stop.OutOfMemory c.from_residual.ensures.0 c.from_residual.ensures.1
          (stops_wanting w s.left f g0 g2 Stop.OutOfMemory refl);
      counted =
          counts_then w n0 c.loop-i.entry c.evaluate.new.entry g0 g1 g2 c.loop-i.invariant.counted c.evaluate.ensures.counted;
    }

pub chains::list_literal-loop-i-preserved : goal.chains::list_literal-loop-i-preserved
chains::list_literal-loop-i-preserved g t c =
    let s = c.args.scene.now in
    let w = world_in s in
    let g0 = c.args.guard.now in
    let n0 = c.args.entry.now in
    let ts = trees c.args.items.now in
    let f = λ (n : ℕ). listed_in s (pack ts) n in
    let g1 = c.loop-i.guard in
    let i = c.loop-i.i in
    let value = listed_with c.loop-i.all.values in
    let h = c.loop-i.all.height in
    let p0 = c.loop-i.invariant.partly in
    let rest = λ (n : ℕ). option_map value (all_demanded (results_in s (pack (drop i ts)) n)) in
    let a = tree c.at.result.now in
    let k = λ (n : ℕ) (p : Plain). option_map (λ ps. value (p ∷ ps)) (all_demanded (results_in s (pack (drop (i + 1) ts)) n)) in
    let p1 = rewritten w f s.left g0 g1 rest (λ n. option_and_then (k n) (values_in s a n)) h (λ n. listed-from s ts i a c.at.ensures n value) p0 in
    let g2 = c.evaluate.new.guard in
    let o = c.in-Ok.next in
    let next = listed_with c.in_ok-all.all.values in
    let left = λ (n : ℕ). all_demanded (results_in s (pack (drop (i + 1) ts)) n) in
    let p2 = part_done w s.left f g0 g1 g2 k (values_in s a) h o p1 c.in-Ok.ensures.answer in
    let alike = λ (n : ℕ). mapped_alike (λ ps. value (plain o.value ∷ ps)) next (λ ps. sym (c.in_ok-all.ensures.value ps)) (left n) in
    let p3 = rewritten w f s.left g0 g2 (λ n. k n (plain o.value)) (λ n. option_map next (left n)) (max h o.height) alike p2 in
    record {
      partly =
          subst (λ (m : ℕ). IsPartly w f s.left g0 g2 (λ n. option_map next (left n)) m) (sym c.in_ok-all.ensures.height) p3;
      counted =
          counts_then w n0 c.loop-i.entry c.evaluate.new.entry g0 g1 g2 c.loop-i.invariant.counted c.evaluate.ensures.counted;
    }

pub chains::list_literal-returns-in-Err : goal.chains::list_literal-returns-in-Err
chains::list_literal-returns-in-Err g t c =
    let s = c.args.scene.now in
    let w = world_in s in
    let g0 = c.args.guard.now in
    let n0 = c.args.entry.now in
    let ts = trees c.args.items.now in
    let f = λ (n : ℕ). listed_in s (pack ts) n in
    let g1 = c.loop-i.guard in
    let i = c.loop-i.i in
    let value = listed_with c.loop-i.all.values in
    let h = c.loop-i.all.height in
    let p0 = c.loop-i.invariant.partly in
    let rest = λ (n : ℕ). option_map value (all_demanded (results_in s (pack (drop i ts)) n)) in
    let a = tree c.at.result.now in
    let k = λ (n : ℕ) (p : Plain). option_map (λ ps. value (p ∷ ps)) (all_demanded (results_in s (pack (drop (i + 1) ts)) n)) in
    let p1 = rewritten w f s.left g0 g1 rest (λ n. option_and_then (k n) (values_in s a n)) h (λ n. listed-from s ts i a c.at.ensures n value) p0 in
    let g2 = c.evaluate.new.guard in
    record {
      answer =
          part_fails w s.left f g0 g1 g2 g2 k (values_in s a) h c.in-Err.stop p1 c.in-Err.ensures.answer;
      counted =
          counts_then w n0 c.loop-i.entry c.evaluate.new.entry g0 g1 g2 c.loop-i.invariant.counted c.evaluate.ensures.counted;
    }

pub evaluation::follow-attribute-requires : goal.evaluation::follow-attribute-requires
evaluation::follow-attribute-requires g t c κs within =
    let s = c.args.scene.now in
    let w = world_in s in
    let g0 = c.args.guard.now in
    let n0 = c.args.entry.now in
    let f = λ (r : Reference) (n : ℕ). value_of (value_at n w) r in (
      omega (arith, c.decreases),
      (
        within,
        (
          subst (IsInWorld w) c.in-Attribute.is c.requires.there,
          subst (λ r. Ready w g0 (f r)) c.in-Attribute.is c.requires.ready,
        ),
      ),
    )

pub evaluation::follow-returns-in-Attribute : goal.evaluation::follow-returns-in-Attribute
evaluation::follow-returns-in-Attribute g t c =
    let s = c.args.scene.now in
    let w = world_in s in
    let g0 = c.args.guard.now in
    let n0 = c.args.entry.now in
    let f = λ (r : Reference) (n : ℕ). value_of (value_at n w) r in
    record {
      answer =
          subst (λ r. Answers w (f r) s.left g0 c.attribute.new.guard c.attribute.result) (sym c.in-Attribute.is) c.attribute.ensures.answer;
      counted =
          c.attribute.ensures.counted;
    }

pub evaluation::follow-returns-in-Value : goal.evaluation::follow-returns-in-Value
evaluation::follow-returns-in-Value g t c =
    let s = c.args.scene.now in
    let w = world_in s in
    let g0 = c.args.guard.now in
    let n0 = c.args.entry.now in
    let f = λ (r : Reference) (n : ℕ). value_of (value_at n w) r in
    let r = c.args.reference in
    record {
      answer =
          finishes w s.left (f r) g0 g0 (f r) 0 c.leaf.result (begins w s.left (f r) (f r) g0 c.requires.ready (λ n. refl))
          (λ n. ap (λ q. value_of (value_at n w) q) c.in-Value.is ∙ ap Some (sym c.leaf.ensures.value)) c.leaf.ensures.height;
      counted = counts_same w n0 g0;
    }

pub evaluation::attribute-literal_at-requires : goal.evaluation::attribute-literal_at-requires
evaluation::attribute-literal_at-requires g t c =
    world_there c.args.scene.now c.args.pos c.requires.there

pub evaluation::attribute-returns-in-Some-clause-answer : goal.evaluation::attribute-returns-in-Some-clause-answer
evaluation::attribute-returns-in-Some-clause-answer g t c =
    let s = c.args.scene.now in
    let some : 0 < s.left = omega arith in
    let is = ap (λ (w : PlainWorld). literal_of (expr_of w c.args.pos)) (scene_world s) ∙ sym c.in-Some.ensures in
    answers_literal (world_in s) s.left c.args.pos c.args.guard.now c.in-Some.lit.now c.literal.result some c.requires.ready is c.literal.ensures

pub evaluation::attribute-returns-in-Some-clause-counted : goal.evaluation::attribute-returns-in-Some-clause-counted
evaluation::attribute-returns-in-Some-clause-counted g t c =
    counts_same (world_in c.args.scene.now) c.args.entry.now c.args.guard.now

pub evaluation::known-enter-requires : goal.evaluation::known-enter-requires
evaluation::known-enter-requires g t c κs within =
    let s = c.args.scene.now in
    let w = world_in s in
    let g0 = c.args.guard.now in
    let n0 = c.args.entry.now in
    (omega (arith, c.decreases), (within, (c.requires.there, (sym c.in-Unseen.ensures, c.requires.ready))))

pub evaluation::known-returns-in-Unseen : goal.evaluation::known-returns-in-Unseen
evaluation::known-returns-in-Unseen g t c =
    record { answer = c.enter.ensures.answer; counted = c.enter.ensures.counted }

pub evaluation::known-returns-in-Pending : goal.evaluation::known-returns-in-Pending
evaluation::known-returns-in-Pending g t c =
    let s = c.args.scene.now in
    let w = world_in s in
    let g0 = c.args.guard.now in
    let n0 = c.args.entry.now in
    let pos = c.args.pos in
    let f = λ (n : ℕ). value_at n w pos in
    let ready = ready_is w g0 f c.requires.ready in
    record { answer = stops_by w f s.left g0 g0 Stop.References (λ is. circle w g0 pos (sym c.in-Pending.ensures) ready s.left); counted = counts_same w n0 g0 }

pub evaluation::known-returns-in-Done : goal.evaluation::known-returns-in-Done
evaluation::known-returns-in-Done g t c =
    let s = c.args.scene.now in
    let w = world_in s in
    let g0 = c.args.guard.now in
    let n0 = c.args.entry.now in
    let pos = c.args.pos in
    let f = λ (n : ℕ). value_at n w pos in
    let ready = ready_is w g0 f c.requires.ready in
    record {
      answer =
          recalls w s.left pos g0 (plain c.in-Done.value.now) c.in-Done.height c.recalled.result ready (sym c.in-Done.ensures) c.recalled.ensures;
      counted =
          counts_same w n0 g0;
    }

pub evaluation::enter-enter-requires : goal.evaluation::enter-enter-requires
evaluation::enter-enter-requires g t c =
    c.requires.fresh

pub evaluation::enter-expr_at-expr-requires : goal.evaluation::enter-expr_at-expr-requires
evaluation::enter-expr_at-expr-requires g t c =
    let s = c.args.scene.now in
    let w = world_in s in
    let g0 = c.args.guard.now in
    let n0 = c.args.entry.now in
    world_there s c.args.pos c.requires.there

pub evaluation::enter-inside-inner-requires : goal.evaluation::enter-inside-inner-requires
evaluation::enter-inside-inner-requires g t c =
    c.if-scene-eq0.false

pub evaluation::enter-returns-then-scene-eq0 : goal.evaluation::enter-returns-then-scene-eq0
evaluation::enter-returns-then-scene-eq0 g t c =
    let s = c.args.scene.now in
    let w = world_in s in
    let g0 = c.args.guard.now in
    let n0 = c.args.entry.now in
    let pos = c.args.pos in
    let f = λ (n : ℕ). value_at n w pos in
    let ready = ready_is w g0 f c.requires.ready in
    record {
      answer =
          stops_by w f s.left g0 g0 Stop.References (λ is. ap (λ (n : ℕ). value_at n w pos) c.if-scene-eq0.true ∙ value_at-none w pos);
      counted =
          counts_same w n0 g0;
    }

pub evaluation::enter-returns-in_err-enter : goal.evaluation::enter-returns-in_err-enter
evaluation::enter-returns-in_err-enter g t c =
    let s = c.args.scene.now in
    let w = world_in s in
    let g0 = c.args.guard.now in
    let n0 = c.args.entry.now in
    let pos = c.args.pos in
    let f = λ (n : ℕ). value_at n w pos in
    let g1 = c.enter.new.self in
    record {
      answer =
          hands_on w s.left f g0 g1 c.from_residual.result Stop.OutOfMemory c.from_residual.ensures.0 c.from_residual.ensures.1
          (stops_wanting w s.left f g0 g1 Stop.OutOfMemory refl);
      counted = counts_equal w n0 n0 g0 g1 refl (unseen-same w g0 g1 c.in_err-enter.ensures.err);
    }

pub evaluation::enter-evaluate-requires : goal.evaluation::enter-evaluate-requires
evaluation::enter-evaluate-requires g t c κs within =
    let s = c.args.scene.now in
    let w = world_in s in
    let g0 = c.args.guard.now in
    let n0 = c.args.entry.now in
    let pos = c.args.pos in
    let f = λ (n : ℕ). value_at n w pos in
    let ready = ready_is w g0 f c.requires.ready in
    let x = tree c.expr_at-expr.result.now in
    let i = c.inside-inner.result in
    let g1 = c.enter.new.self in
    let there = world_has s pos x c.expr_at-expr.ensures.expr in
    let entered = c.in_ok-enter.ensures.ok in
    let less = turn-less w s.left (size x) c.if-scene-eq0.false (size-turn w pos x there) in
    let spent = inner_work s i (size x) c.inside-inner.ensures.world c.inside-inner.ensures.left less in (
      omega (arith, c.decreases, spent),
      (
        within,
        ready_there s i pos x c.inside-inner.ensures.world c.inside-inner.ensures.at g1 (is_ready w g1
            (λ n. value_with n w (frame_of_attribute pos) x) (ready_inside w g0 g1 pos x there entered ready)),
      ),
    )

pub evaluation::enter-returns-in_err-found : goal.evaluation::enter-returns-in_err-found
evaluation::enter-returns-in_err-found g t c =
    let s = c.args.scene.now in
    let w = world_in s in
    let g0 = c.args.guard.now in
    let n0 = c.args.entry.now in
    let pos = c.args.pos in
    let f = λ (n : ℕ). value_at n w pos in
    let ready = ready_is w g0 f c.requires.ready in
    let x = tree c.expr_at-expr.result.now in
    let i = c.inside-inner.result in
    let g1 = c.enter.new.self in
    let there = world_has s pos x c.expr_at-expr.ensures.expr in
    let entered = c.in_ok-enter.ensures.ok in
    let g2 = c.evaluate.new.guard in
    let fewer = unseen-fewer w g0 g1 pos pending refl entered x there c.requires.fresh in
    let count1 = counts_entered w n0 c.expr_at-expr.new.entry g0 g1 c.expr_at-expr.ensures.counted fewer in
    let count2 = counts_there s i c.expr_at-expr.new.entry c.evaluate.new.entry g1 g2 c.inside-inner.ensures.world c.evaluate.ensures.counted in
    let count = counts_then w n0 c.expr_at-expr.new.entry c.evaluate.new.entry g0 g1 g2 count1 count2 in
    let stop = c.in_err-found.field-0.0 in
    record {
      answer =
          hands_on w s.left f g0 g2 c.from_residual-in_err-found.result stop c.from_residual-in_err-found.ensures.0 c.from_residual-in_err-found.ensures.1
          (stops_by w f s.left g0 g2 stop (λ is. fails_inside w g0 g1 pos x there entered s.left c.if-scene-eq0.false
          (answer_there_none s i pos x c.inside-inner.ensures.world c.inside-inner.ensures.at g1 g2 c.inside-inner.ensures.left
          (subst (λ z. Answers (world_in i) (values_in i x) i.left g1 g2 (Err z)) is c.in_err-found.ensures.answer))));
      counted = count;
    }

pub evaluation::enter-returns : goal.evaluation::enter-returns
evaluation::enter-returns g t c =
    let s = c.args.scene.now in
    let w = world_in s in
    let g0 = c.args.guard.now in
    let n0 = c.args.entry.now in
    let pos = c.args.pos in
    let f = λ (n : ℕ). value_at n w pos in
    let ready = ready_is w g0 f c.requires.ready in
    let x = tree c.expr_at-expr.result.now in
    let i = c.inside-inner.result in
    let g1 = c.enter.new.self in
    let there = world_has s pos x c.expr_at-expr.ensures.expr in
    let entered = c.in_ok-enter.ensures.ok in
    let g2 = c.evaluate.new.guard in
    let fewer = unseen-fewer w g0 g1 pos pending refl entered x there c.requires.fresh in
    let count1 = counts_entered w n0 c.expr_at-expr.new.entry g0 g1 c.expr_at-expr.ensures.counted fewer in
    let count2 = counts_there s i c.expr_at-expr.new.entry c.evaluate.new.entry g1 g2 c.inside-inner.ensures.world c.evaluate.ensures.counted in
    let count = counts_then w n0 c.expr_at-expr.new.entry c.evaluate.new.entry g0 g1 g2 count1 count2 in
    let o = c.in_ok-found.found in
    let reached =
    answer_there_some s i pos x c.inside-inner.ensures.world c.inside-inner.ensures.at g1 g2 c.inside-inner.ensures.left o c.in_ok-found.ensures.answer in
    let g3 = c.keep.new.guard in
    record {
      answer =
          keeps w s.left pos g0 g2 g3 (plain o.value) (o.height + 1) c.keep.result
          (λ finished. kept_inside w g0 g1 pos x there entered g2 g3 s.left (plain o.value) o.height c.if-scene-eq0.false c.requires.fresh finished reached)
          c.keep.ensures;
      counted =
          counts_then w n0 c.evaluate.new.entry c.evaluate.new.entry g0 g2 g3 count
          (counts_kept w s.left pos c.evaluate.new.entry g2 g3 (plain o.value) (o.height + 1) c.keep.result c.keep.ensures);
    }

pub evaluation::enter-keep-requires : goal.evaluation::enter-keep-requires
evaluation::enter-keep-requires g t c =
    let s = c.args.scene.now in
    let w = world_in s in
    let g0 = c.args.guard.now in
    let n0 = c.args.entry.now in
    let pos = c.args.pos in
    let f = λ (n : ℕ). value_at n w pos in
    let ready = ready_is w g0 f c.requires.ready in
    let x = tree c.expr_at-expr.result.now in
    let i = c.inside-inner.result in
    let g1 = c.enter.new.self in
    let there = world_has s pos x c.expr_at-expr.ensures.expr in
    let entered = c.in_ok-enter.ensures.ok in
    let g2 = c.evaluate.new.guard in
    let o = c.in_ok-found.found in
    let reached =
    answer_there_some s i pos x c.inside-inner.ensures.world c.inside-inner.ensures.at g1 g2 c.inside-inner.ensures.left o c.in_ok-found.ensures.answer in
    record { pending = still_pending w g0 g1 pos x there entered g2 g2 s.left (plain o.value) o.height reached; height = omega (arith, reached.within) }

pub chains::chain-loop-i-init : goal.chains::chain-loop-i-init
chains::chain-loop-i-init g t c =
    let s = c.args.scene.now in
    let w = world_in s in
    let g0 = c.args.guard.now in
    let n0 = c.args.entry.now in
    let ts = trees c.args.items.now in
    let kind = c.args.kind in
    let f = λ (n : ℕ). chained kind (start kind) (results_in s (pack ts) n) in
    let v = plain c.start-so_far.result.value in
    let is = c.start-so_far.ensures.value in
    let rest = λ (n : ℕ). chained kind v (results_in s (pack ts) n) in
    record {
      partly =
          subst (λ (h : ℕ). IsPartly w f s.left g0 g0 rest h) (sym c.start-so_far.ensures.height)
          (begins w s.left f rest g0 c.requires (λ n. ap (λ (p : Plain). chained kind p (results_in s (pack ts) n)) (sym is)));
      counted = counts_same w n0 g0;
    }

pub chains::chain-returns : goal.chains::chain-returns
chains::chain-returns g t c =
    let s = c.args.scene.now in
    let w = world_in s in
    let g0 = c.args.guard.now in
    let n0 = c.args.entry.now in
    let ts = trees c.args.items.now in
    let kind = c.args.kind in
    let f = λ (n : ℕ). chained kind (start kind) (results_in s (pack ts) n) in
    let g1 = c.loop-i.guard in
    let i = c.loop-i.i in
    let v = plain c.loop-i.so_far.value in
    let h = c.loop-i.so_far.height in
    let p0 = c.loop-i.invariant.partly in
    let rest = λ (n : ℕ). chained kind v (results_in s (pack (drop i ts)) n) in
    let past : length ts ≤ i = omega arith in
    record { answer = finishes w s.left f g0 g1 rest h c.loop-i.so_far p0 (λ n. chained-end s ts i past n kind v) refl; counted = c.loop-i.invariant.counted }

pub chains::chain-returns-then-is_decided : goal.chains::chain-returns-then-is_decided
chains::chain-returns-then-is_decided g t c =
    let s = c.args.scene.now in
    let w = world_in s in
    let g0 = c.args.guard.now in
    let n0 = c.args.entry.now in
    let ts = trees c.args.items.now in
    let kind = c.args.kind in
    let f = λ (n : ℕ). chained kind (start kind) (results_in s (pack ts) n) in
    let g1 = c.loop-i.guard in
    let i = c.loop-i.i in
    let v = plain c.loop-i.so_far.value in
    let h = c.loop-i.so_far.height in
    let p0 = c.loop-i.invariant.partly in
    let rest = λ (n : ℕ). chained kind v (results_in s (pack (drop i ts)) n) in
    let decided = sym c.is_decided.ensures ∙ c.if-is_decided.true in
    record {
      answer =
          finishes w s.left f g0 g1 rest h c.loop-i.so_far p0 (λ n. chained-decided kind v (results_in s (pack (drop i ts)) n) decided) refl;
      counted =
          c.loop-i.invariant.counted;
    }

pub chains::chain-evaluate-requires : goal.chains::chain-evaluate-requires
chains::chain-evaluate-requires g t c κs within =
    let s = c.args.scene.now in
    let w = world_in s in
    let g0 = c.args.guard.now in
    let n0 = c.args.entry.now in
    let ts = trees c.args.items.now in
    let kind = c.args.kind in
    let f = λ (n : ℕ). chained kind (start kind) (results_in s (pack ts) n) in
    let g1 = c.loop-i.guard in
    let i = c.loop-i.i in
    let v = plain c.loop-i.so_far.value in
    let h = c.loop-i.so_far.height in
    let p0 = c.loop-i.invariant.partly in
    let rest = λ (n : ℕ). chained kind v (results_in s (pack (drop i ts)) n) in
    let a = tree c.at.result.now in
    let undecided = sym c.is_decided.ensures ∙ c.if-is_decided.false in
    let k = λ (n : ℕ) (p : Plain). chained kind (joined kind v p) (results_in s (pack (drop (i + 1) ts)) n) in
    let p1 = rewritten w f s.left g0 g1 rest (λ n. option_and_then (k n) (values_in s a n)) h (λ n. chained-from s ts i a c.at.ensures n kind v undecided) p0 in
    (omega (arith, c.decreases, size-at ts i a c.at.ensures), (within, part_ready w s.left f g0 g1 k (values_in s a) h p1))

pub chains::chain-loop-i-preserved : goal.chains::chain-loop-i-preserved
chains::chain-loop-i-preserved g t c =
    let s = c.args.scene.now in
    let w = world_in s in
    let g0 = c.args.guard.now in
    let n0 = c.args.entry.now in
    let ts = trees c.args.items.now in
    let kind = c.args.kind in
    let f = λ (n : ℕ). chained kind (start kind) (results_in s (pack ts) n) in
    let g1 = c.loop-i.guard in
    let i = c.loop-i.i in
    let v = plain c.loop-i.so_far.value in
    let h = c.loop-i.so_far.height in
    let p0 = c.loop-i.invariant.partly in
    let rest = λ (n : ℕ). chained kind v (results_in s (pack (drop i ts)) n) in
    let a = tree c.at.result.now in
    let undecided = sym c.is_decided.ensures ∙ c.if-is_decided.false in
    let k = λ (n : ℕ) (p : Plain). chained kind (joined kind v p) (results_in s (pack (drop (i + 1) ts)) n) in
    let p1 = rewritten w f s.left g0 g1 rest (λ n. option_and_then (k n) (values_in s a n)) h (λ n. chained-from s ts i a c.at.ensures n kind v undecided) p0 in
    let g2 = c.evaluate.new.guard in
    let o = c.in-Ok.next in
    let some = c.in-Ok.ensures.answer in
    let p2 = part_done w s.left f g0 g1 g2 k (values_in s a) h o p1 some in
    let p3 =
    subst (λ (p : Plain). IsPartly w f s.left g0 g2 (λ n. chained kind p (results_in s (pack (drop (i + 1) ts)) n)) (max h o.height))
    (sym c.join-so_far.ensures.value) p2 in
    record {
      partly =
          subst (λ (m : ℕ). IsPartly w f s.left g0 g2 (λ n. chained kind (plain c.join-so_far.result.value) (results_in s (pack (drop (i + 1) ts)) n)) m)
          (sym c.join-so_far.ensures.height) p3;
      counted =
          counts_then w n0 c.loop-i.entry c.evaluate.new.entry g0 g1 g2 c.loop-i.invariant.counted c.evaluate.ensures.counted;
    }

pub chains::chain-returns-in-Err : goal.chains::chain-returns-in-Err
chains::chain-returns-in-Err g t c =
    let s = c.args.scene.now in
    let w = world_in s in
    let g0 = c.args.guard.now in
    let n0 = c.args.entry.now in
    let ts = trees c.args.items.now in
    let kind = c.args.kind in
    let f = λ (n : ℕ). chained kind (start kind) (results_in s (pack ts) n) in
    let g1 = c.loop-i.guard in
    let i = c.loop-i.i in
    let v = plain c.loop-i.so_far.value in
    let h = c.loop-i.so_far.height in
    let p0 = c.loop-i.invariant.partly in
    let rest = λ (n : ℕ). chained kind v (results_in s (pack (drop i ts)) n) in
    let a = tree c.at.result.now in
    let undecided = sym c.is_decided.ensures ∙ c.if-is_decided.false in
    let k = λ (n : ℕ) (p : Plain). chained kind (joined kind v p) (results_in s (pack (drop (i + 1) ts)) n) in
    let p1 = rewritten w f s.left g0 g1 rest (λ n. option_and_then (k n) (values_in s a n)) h (λ n. chained-from s ts i a c.at.ensures n kind v undecided) p0 in
    let g2 = c.evaluate.new.guard in
    record {
      answer =
          part_fails w s.left f g0 g1 g2 g2 k (values_in s a) h c.in-Err.stop p1 c.in-Err.ensures.answer;
      counted =
          counts_then w n0 c.loop-i.entry c.evaluate.new.entry g0 g1 g2 c.loop-i.invariant.counted c.evaluate.ensures.counted;
    }

pub chains::all_of-loop-i-init : goal.chains::all_of-loop-i-init
chains::all_of-loop-i-init g t c =
    let s = c.args.scene.now in
    let w = world_in s in
    let g0 = c.args.guard.now in
    let n0 = c.args.entry.now in
    let ts = trees c.args.items.now in
    let f = λ (n : ℕ). all_demanded (results_in s (pack ts) n) in
    let rest = λ (n : ℕ). values_and (plains c.new.result) (all_demanded (results_in s (pack ts) n)) in
    record {
      partly =
          begins w s.left f rest g0 c.requires (λ n. all_demanded-start (all_demanded (results_in s (pack ts) n))
          ∙ ap (λ (vs : List Plain). values_and vs (all_demanded (results_in s (pack ts) n))) (sym c.new.ensures));
      counted = counts_same w n0 g0;
    }

pub chains::all_of-returns : goal.chains::all_of-returns
chains::all_of-returns g t c =
    let s = c.args.scene.now in
    let w = world_in s in
    let g0 = c.args.guard.now in
    let n0 = c.args.entry.now in
    let ts = trees c.args.items.now in
    let f = λ (n : ℕ). all_demanded (results_in s (pack ts) n) in
    let g1 = c.loop-i.guard in
    let i = c.loop-i.i in
    let vs = plains c.loop-i.all.values in
    let h = c.loop-i.all.height in
    let p0 = c.loop-i.invariant.partly in
    let rest = λ (n : ℕ). values_and vs (all_demanded (results_in s (pack (drop i ts)) n)) in
    let past : length ts ≤ i = omega arith in
    record { answer = finishes_list w s.left f g0 g1 rest h c.loop-i.all p0 (λ n. values-end s ts i past n vs) refl; counted = c.loop-i.invariant.counted }

pub chains::all_of-evaluate-requires : goal.chains::all_of-evaluate-requires
chains::all_of-evaluate-requires g t c κs within =
    let s = c.args.scene.now in
    let w = world_in s in
    let g0 = c.args.guard.now in
    let n0 = c.args.entry.now in
    let ts = trees c.args.items.now in
    let f = λ (n : ℕ). all_demanded (results_in s (pack ts) n) in
    let g1 = c.loop-i.guard in
    let i = c.loop-i.i in
    let vs = plains c.loop-i.all.values in
    let h = c.loop-i.all.height in
    let p0 = c.loop-i.invariant.partly in
    let rest = λ (n : ℕ). values_and vs (all_demanded (results_in s (pack (drop i ts)) n)) in
    let a = tree c.at.result.now in
    let k = λ (n : ℕ) (p : Plain). values_and (vs ++ p ∷ []) (all_demanded (results_in s (pack (drop (i + 1) ts)) n)) in
    let p1 = rewritten w f s.left g0 g1 rest (λ n. option_and_then (k n) (values_in s a n)) h (λ n. all_demanded-from s ts i a c.at.ensures n vs) p0 in
    (omega (arith, c.decreases, size-at ts i a c.at.ensures), (within, part_ready w s.left f g0 g1 k (values_in s a) h p1))

pub chains::all_of-returns-in_err-all : goal.chains::all_of-returns-in_err-all
chains::all_of-returns-in_err-all g t c =
    let s = c.args.scene.now in
    let w = world_in s in
    let g0 = c.args.guard.now in
    let n0 = c.args.entry.now in
    let ts = trees c.args.items.now in
    let f = λ (n : ℕ). all_demanded (results_in s (pack ts) n) in
    let g1 = c.loop-i.guard in
    let g2 = c.evaluate.new.guard in
    record {
      answer =
          hands_on_all w s.left f g0 g2 c.from_residual.result Stop.OutOfMemory c.from_residual.ensures.0 c.from_residual.ensures.1
          (stops_all_by w f s.left g0 g2 Stop.OutOfMemory (λ is. absurd (cc)));
      counted =
          counts_then w n0 c.loop-i.entry c.evaluate.new.entry g0 g1 g2 c.loop-i.invariant.counted c.evaluate.ensures.counted;
    }

pub chains::all_of-loop-i-preserved : goal.chains::all_of-loop-i-preserved
chains::all_of-loop-i-preserved g t c =
    let s = c.args.scene.now in
    let w = world_in s in
    let g0 = c.args.guard.now in
    let n0 = c.args.entry.now in
    let ts = trees c.args.items.now in
    let f = λ (n : ℕ). all_demanded (results_in s (pack ts) n) in
    let g1 = c.loop-i.guard in
    let i = c.loop-i.i in
    let vs = plains c.loop-i.all.values in
    let h = c.loop-i.all.height in
    let p0 = c.loop-i.invariant.partly in
    let rest = λ (n : ℕ). values_and vs (all_demanded (results_in s (pack (drop i ts)) n)) in
    let a = tree c.at.result.now in
    let k = λ (n : ℕ) (p : Plain). values_and (vs ++ p ∷ []) (all_demanded (results_in s (pack (drop (i + 1) ts)) n)) in
    let p1 = rewritten w f s.left g0 g1 rest (λ n. option_and_then (k n) (values_in s a n)) h (λ n. all_demanded-from s ts i a c.at.ensures n vs) p0 in
    let g2 = c.evaluate.new.guard in
    let o = c.in-Ok.next in
    let some = c.in-Ok.ensures.answer in
    let p2 = part_done w s.left f g0 g1 g2 k (values_in s a) h o p1 some in
    let p3 =
    subst (λ (us : List Plain). IsPartly w f s.left g0 g2 (λ n. values_and us (all_demanded (results_in s (pack (drop (i + 1) ts)) n))) (max h o.height))
    (sym c.in_ok-all.ensures.values) p2 in
    record {
      partly =
          subst (λ (m : ℕ). IsPartly w f s.left g0 g2 (λ n. values_and (plains c.in_ok-all.all.values) (all_demanded (results_in s (pack (drop (i + 1) ts)) n)))
          m) (sym c.in_ok-all.ensures.height) p3;
      counted =
          counts_then w n0 c.loop-i.entry c.evaluate.new.entry g0 g1 g2 c.loop-i.invariant.counted c.evaluate.ensures.counted;
    }

pub chains::all_of-returns-in-Err : goal.chains::all_of-returns-in-Err
chains::all_of-returns-in-Err g t c =
    let s = c.args.scene.now in
    let w = world_in s in
    let g0 = c.args.guard.now in
    let n0 = c.args.entry.now in
    let ts = trees c.args.items.now in
    let f = λ (n : ℕ). all_demanded (results_in s (pack ts) n) in
    let g1 = c.loop-i.guard in
    let i = c.loop-i.i in
    let vs = plains c.loop-i.all.values in
    let h = c.loop-i.all.height in
    let p0 = c.loop-i.invariant.partly in
    let rest = λ (n : ℕ). values_and vs (all_demanded (results_in s (pack (drop i ts)) n)) in
    let a = tree c.at.result.now in
    let k = λ (n : ℕ) (p : Plain). values_and (vs ++ p ∷ []) (all_demanded (results_in s (pack (drop (i + 1) ts)) n)) in
    let p1 = rewritten w f s.left g0 g1 rest (λ n. option_and_then (k n) (values_in s a n)) h (λ n. all_demanded-from s ts i a c.at.ensures n vs) p0 in
    let g2 = c.evaluate.new.guard in
    record {
      answer =
          part_fails_all w s.left f g0 g1 g2 g2 k (values_in s a) h c.in-Err.stop p1 c.in-Err.ensures.answer;
      counted =
          counts_then w n0 c.loop-i.entry c.evaluate.new.entry g0 g1 g2 c.loop-i.invariant.counted c.evaluate.ensures.counted;
    }

pub chains::conditional-evaluate-requires : goal.chains::conditional-evaluate-requires
chains::conditional-evaluate-requires g t c κs within =
    let s = c.args.scene.now in
    let w = world_in s in
    let g0 = c.args.guard.now in
    let n0 = c.args.entry.now in
    let a = tree c.args.condition.now in
    let b = tree c.args.first.now in
    let d = tree c.args.second.now in
    let f = λ (n : ℕ). conditional (results_in s (three a b d) n) in
    let k = λ (n : ℕ). chosen (values_in s b n) (values_in s d n) in
    let p0 = begins w s.left f (λ n. option_and_then (k n) (values_in s a n)) g0 c.requires (λ n. conditional-three s a b d n) in
    (omega (arith, c.decreases), (within, part_ready w s.left f g0 g0 k (values_in s a) 0 p0))

pub chains::conditional-returns-in_err-condition : goal.chains::conditional-returns-in_err-condition
chains::conditional-returns-in_err-condition g t c =
    let s = c.args.scene.now in
    let w = world_in s in
    let g0 = c.args.guard.now in
    let n0 = c.args.entry.now in
    let a = tree c.args.condition.now in
    let b = tree c.args.first.now in
    let d = tree c.args.second.now in
    let f = λ (n : ℕ). conditional (results_in s (three a b d) n) in
    let k = λ (n : ℕ). chosen (values_in s b n) (values_in s d n) in
    let p0 = begins w s.left f (λ n. option_and_then (k n) (values_in s a n)) g0 c.requires (λ n. conditional-three s a b d n) in
    let g1 = c.evaluate.new.guard in
    record {
      answer =
          hands_on w s.left f g0 g1 c.from_residual.result c.in_err-condition.field-0.0 c.from_residual.ensures.0 c.from_residual.ensures.1
          (part_fails w s.left f g0 g0 g1 g1 k (values_in s a) 0 c.in_err-condition.field-0.0 p0 c.in_err-condition.ensures.answer);
      counted =
          c.evaluate.ensures.counted;
    }

pub chains::conditional-returns-in-Value : goal.chains::conditional-returns-in-Value
chains::conditional-returns-in-Value g t c =
    let s = c.args.scene.now in
    let w = world_in s in
    let g0 = c.args.guard.now in
    let n0 = c.args.entry.now in
    let a = tree c.args.condition.now in
    let b = tree c.args.first.now in
    let d = tree c.args.second.now in
    let f = λ (n : ℕ). conditional (results_in s (three a b d) n) in
    let k = λ (n : ℕ). chosen (values_in s b n) (values_in s d n) in
    let p0 = begins w s.left f (λ n. option_and_then (k n) (values_in s a n)) g0 c.requires (λ n. conditional-three s a b d n) in
    let g1 = c.evaluate.new.guard in
    let o1 = c.in_ok-condition.condition in
    let some1 = c.in_ok-condition.ensures.answer in
    let h1 = max 0 o1.height in
    let p1 = part_done w s.left f g0 g0 g1 k (values_in s a) 0 o1 p0 some1 in
    let u : Outcome = record { value = c.in-Value.value; height = o1.height } in
    let is = c.in-Value.ensures in
    record {
      answer =
          finishes w s.left f g0 g1 (λ n. k n (plain o1.value)) h1 u p1 (λ n. is (values_in s b n) (values_in s d n)) (omega arith);
      counted =
          c.evaluate.ensures.counted;
    }

pub chains::conditional-evaluate-requires-in-Taken : goal.chains::conditional-evaluate-requires-in-Taken
chains::conditional-evaluate-requires-in-Taken g t c κs within =
    let s = c.args.scene.now in
    let w = world_in s in
    let g0 = c.args.guard.now in
    let n0 = c.args.entry.now in
    let a = tree c.args.condition.now in
    let b = tree c.args.first.now in
    let d = tree c.args.second.now in
    let f = λ (n : ℕ). conditional (results_in s (three a b d) n) in
    let k = λ (n : ℕ). chosen (values_in s b n) (values_in s d n) in
    let p0 = begins w s.left f (λ n. option_and_then (k n) (values_in s a n)) g0 c.requires (λ n. conditional-three s a b d n) in
    let g1 = c.evaluate.new.guard in
    let o1 = c.in_ok-condition.condition in
    let some1 = c.in_ok-condition.ensures.answer in
    let h1 = max 0 o1.height in
    let p1 = part_done w s.left f g0 g0 g1 k (values_in s a) 0 o1 p0 some1 in
    let e = tree c.in-Taken.branch.now in
    let is = c.in-Taken.ensures in
    let p2 = rewritten w f s.left g0 g1 (λ n. k n (plain o1.value)) (values_in s e) h1 (λ n. is.0 (λ (t : Tree). values_in s t n)) p1 in
    (omega (arith, c.decreases, is.1), (within, rest_ready w s.left f g0 g1 (values_in s e) h1 p2))

pub chains::conditional-returns-in-Taken : goal.chains::conditional-returns-in-Taken
chains::conditional-returns-in-Taken g t c =
    let s = c.args.scene.now in
    let w = world_in s in
    let g0 = c.args.guard.now in
    let n0 = c.args.entry.now in
    let a = tree c.args.condition.now in
    let b = tree c.args.first.now in
    let d = tree c.args.second.now in
    let f = λ (n : ℕ). conditional (results_in s (three a b d) n) in
    let k = λ (n : ℕ). chosen (values_in s b n) (values_in s d n) in
    let p0 = begins w s.left f (λ n. option_and_then (k n) (values_in s a n)) g0 c.requires (λ n. conditional-three s a b d n) in
    let g1 = c.evaluate.new.guard in
    let o1 = c.in_ok-condition.condition in
    let some1 = c.in_ok-condition.ensures.answer in
    let h1 = max 0 o1.height in
    let p1 = part_done w s.left f g0 g0 g1 k (values_in s a) 0 o1 p0 some1 in
    let e = tree c.in-Taken.branch.now in
    let is = c.in-Taken.ensures in
    let p2 = rewritten w f s.left g0 g1 (λ n. k n (plain o1.value)) (values_in s e) h1 (λ n. is.0 (λ (t : Tree). values_in s t n)) p1 in
    let g2 = c.evaluate-in-Taken.new.guard in
    record {
      answer =
          rest_ends w s.left f g0 g1 g2 (values_in s e) h1 o1.height c.evaluate-in-Taken.result c.at_least.result (omega arith) p2
          c.evaluate-in-Taken.ensures.answer c.at_least.ensures;
      counted =
          counts_then w n0 c.evaluate.new.entry c.evaluate-in-Taken.new.entry g0 g1 g2 c.evaluate.ensures.counted c.evaluate-in-Taken.ensures.counted;
    }

pub chains::call_function-returns-then-not-known : goal.chains::call_function-returns-then-not-known
chains::call_function-returns-then-not-known g t c =
    let s = c.args.scene.now in
    let w = world_in s in
    let g0 = c.args.guard.now in
    let n0 = c.args.entry.now in
    let x = c.args.name.now in
    let ts = trees c.args.items.now in
    let f = λ (n : ℕ). called w x (results_in s (pack ts) n) in
    let unknown = sym (c.known.ensures ∙ ap (is_known x) c.len.ensures) ∙ c.if-not-known.true in
    record {
      answer =
          finishes w s.left f g0 g0 f 0 c.leaf.result (begins w s.left f f g0 c.requires (λ n. refl))
          (λ n. called-unknown s x ts n unknown ∙ ap Some (sym c.leaf.ensures.value)) c.leaf.ensures.height;
      counted = counts_same w n0 g0;
    }

pub chains::call_function-returns-then-len-ne3 : goal.chains::call_function-returns-then-len-ne3
chains::call_function-returns-then-len-ne3 g t c =
    let s = c.args.scene.now in
    let w = world_in s in
    let g0 = c.args.guard.now in
    let n0 = c.args.entry.now in
    let x = c.args.name.now in
    let ts = trees c.args.items.now in
    let f = λ (n : ℕ). called w x (results_in s (pack ts) n) in
    let knows = sym (c.known.ensures ∙ ap (is_known x) c.len.ensures) ∙ c.if-not-known.false in
    let names = sym c.is_named.ensures ∙ c.if-is_named.true in
    let other = λ (long : length ts ≡ 3). c.if-len-ne3.true (c.len-then-is_named.ensures ∙ long) in
    record {
      answer =
          finishes w s.left f g0 g0 f 0 c.leaf-then-len-ne3.result (begins w s.left f f g0 c.requires (λ n. refl))
          (λ n. called-choice s x ts n knows names ∙ conditional-wrong s ts n other ∙ ap Some (sym c.leaf-then-len-ne3.ensures.value))
          c.leaf-then-len-ne3.ensures.height;
      counted = counts_same w n0 g0;
    }

pub chains::call_function-conditional-requires : goal.chains::call_function-conditional-requires
chains::call_function-conditional-requires g t c κs within =
    let s = c.args.scene.now in
    let w = world_in s in
    let g0 = c.args.guard.now in
    let n0 = c.args.entry.now in
    let x = c.args.name.now in
    let ts = trees c.args.items.now in
    let f = λ (n : ℕ). called w x (results_in s (pack ts) n) in
    let knows = sym (c.known.ensures ∙ ap (is_known x) c.len.ensures) ∙ c.if-not-known.false in
    let names = sym c.is_named.ensures ∙ c.if-is_named.true in
    let a = tree c.at.result.now in
    let b = tree c.at-then-is_named.result.now in
    let d = tree c.at-then-is_named-2.result.now in
    let long : length ts ≡ 3 = omega (arith, c.len-then-is_named.ensures, c.if-len-ne3.false) in
    let shape = pack-three ts a b d long c.at.ensures c.at-then-is_named.ensures c.at-then-is_named-2.ensures in
    let same = λ (n : ℕ). called-choice s x ts n knows names ∙ ap (λ (us : Trees). conditional (results_in s us n)) shape in
    let rest = λ (n : ℕ). conditional (results_in s (three a b d) n) in
    let p0 = begins w s.left f rest g0 c.requires same in
    (omega (arith, c.decreases, ap size_all shape), (within, rest_ready w s.left f g0 g0 rest 0 p0))

pub chains::call_function-returns-then-is_named : goal.chains::call_function-returns-then-is_named
chains::call_function-returns-then-is_named g t c =
    let s = c.args.scene.now in
    let w = world_in s in
    let g0 = c.args.guard.now in
    let n0 = c.args.entry.now in
    let x = c.args.name.now in
    let ts = trees c.args.items.now in
    let f = λ (n : ℕ). called w x (results_in s (pack ts) n) in
    let knows = sym (c.known.ensures ∙ ap (is_known x) c.len.ensures) ∙ c.if-not-known.false in
    let names = sym c.is_named.ensures ∙ c.if-is_named.true in
    let a = tree c.at.result.now in
    let b = tree c.at-then-is_named.result.now in
    let d = tree c.at-then-is_named-2.result.now in
    let long : length ts ≡ 3 = omega (arith, c.len-then-is_named.ensures, c.if-len-ne3.false) in
    let shape = pack-three ts a b d long c.at.ensures c.at-then-is_named.ensures c.at-then-is_named-2.ensures in
    let same = λ (n : ℕ). called-choice s x ts n knows names ∙ ap (λ (us : Trees). conditional (results_in s us n)) shape in
    let rest = λ (n : ℕ). conditional (results_in s (three a b d) n) in
    record {
      answer =
          answers_of w s.left f rest g0 c.conditional.new.guard c.conditional.result same c.conditional.ensures.answer;
      counted = c.conditional.ensures.counted;
    }

pub chains::call_function-at-requires-then-is_named : goal.chains::call_function-at-requires-then-is_named
chains::call_function-at-requires-then-is_named g t c =
    omega (arith, c.len-then-is_named.ensures, c.if-len-ne3.false)

pub chains::call_function-at-requires-then-is_named-2 : goal.chains::call_function-at-requires-then-is_named-2
chains::call_function-at-requires-then-is_named-2 g t c =
    omega (arith, c.len-then-is_named.ensures, c.if-len-ne3.false)

pub chains::call_function-all_of-requires : goal.chains::call_function-all_of-requires
chains::call_function-all_of-requires g t c κs within =
    let s = c.args.scene.now in
    let w = world_in s in
    let g0 = c.args.guard.now in
    let n0 = c.args.entry.now in
    let x = c.args.name.now in
    let ts = trees c.args.items.now in
    let f = λ (n : ℕ). called w x (results_in s (pack ts) n) in
    let knows = sym (c.known.ensures ∙ ap (is_known x) c.len.ensures) ∙ c.if-not-known.false in
    let unnamed = sym c.is_named.ensures ∙ c.if-is_named.false in
    let rest = λ (n : ℕ). all_demanded (results_in s (pack ts) n) in
    let p0 = begins w s.left f (λ n. option_map (function_value w x) (rest n)) g0 c.requires (λ n. called-function s x ts n knows unnamed) in
    (omega (arith, c.decreases), (within, mapped_part_ready w s.left f g0 g0 (function_value w x) rest 0 p0))

pub chains::call_function-returns : goal.chains::call_function-returns
chains::call_function-returns g t c =
    let s = c.args.scene.now in
    let w = world_in s in
    let g0 = c.args.guard.now in
    let n0 = c.args.entry.now in
    let x = c.args.name.now in
    let ts = trees c.args.items.now in
    let f = λ (n : ℕ). called w x (results_in s (pack ts) n) in
    let knows = sym (c.known.ensures ∙ ap (is_known x) c.len.ensures) ∙ c.if-not-known.false in
    let unnamed = sym c.is_named.ensures ∙ c.if-is_named.false in
    let rest = λ (n : ℕ). all_demanded (results_in s (pack ts) n) in
    let p0 = begins w s.left f (λ n. option_map (function_value w x) (rest n)) g0 c.requires (λ n. called-function s x ts n knows unnamed) in
    let g1 = c.all_of.new.guard in
    record {
      answer =
          finishes_applied w s.left f g0 g0 g1 (function_value w x) rest 0 c.in_ok-args.args c.apply_function.result p0 c.in_ok-args.ensures.answer
          c.apply_function.ensures refl;
      counted = c.all_of.ensures.counted;
    }

pub chains::call_function-returns-in_err-args : goal.chains::call_function-returns-in_err-args
chains::call_function-returns-in_err-args g t c =
    let s = c.args.scene.now in
    let w = world_in s in
    let g0 = c.args.guard.now in
    let n0 = c.args.entry.now in
    let x = c.args.name.now in
    let ts = trees c.args.items.now in
    let f = λ (n : ℕ). called w x (results_in s (pack ts) n) in
    let knows = sym (c.known.ensures ∙ ap (is_known x) c.len.ensures) ∙ c.if-not-known.false in
    let unnamed = sym c.is_named.ensures ∙ c.if-is_named.false in
    let rest = λ (n : ℕ). all_demanded (results_in s (pack ts) n) in
    let p0 = begins w s.left f (λ n. option_map (function_value w x) (rest n)) g0 c.requires (λ n. called-function s x ts n knows unnamed) in
    let g1 = c.all_of.new.guard in
    record {
      answer =
          hands_on w s.left f g0 g1 c.from_residual.result c.in_err-args.field-0.0 c.from_residual.ensures.0 c.from_residual.ensures.1
          (all_part_fails w s.left f g0 g0 g1 g1 (function_value w x) rest 0 c.in_err-args.field-0.0 p0 c.in_err-args.ensures.answer);
      counted =
          c.all_of.ensures.counted;
    }
