use Rattle.std.proofs.Common.{Some, ap, sym, ◌∙◌, subst}
use Rattle.template_tree.specs.Programs.Build.{built_label}
use Rattle.template_tree.specs.Programs.PlainTree.{Forest, PlainNode, forest, join, roomless}
use Rattle.template_tree.specs.Programs.PlainPhrasePlace.{plain_phrase_place}
use Rattle.std.specs.Prelude.{◌-◌, ◌^◌, map, min}
use Rattle.phrase_parser.specs.NotRead.{Gives}
use Rattle.file_store.specs.Private.Reader as machine
use Rattle.file_store.specs.Private.Views.{open_list_of}
use Rattle.file_store.proofs.OpenNodes.{roomless_length}
use Rattle.file_store.proofs.reader.open_nodes.closed.Goals as goal

pub returns : goal.returns
returns c =
    let inner = roomless (forest c.args.own.items.items) in
    let around = open_list_of c.args.frame.around in
    let kind = c.kind_with-kind.ensures inner (c.args.own.counted ∙ ap (λ n. min n (2 ^ 64 - 1)) (sym (roomless_length c.args.own.items.items))) in
    subst (λ o. Gives open_list_of c.with_node.result o)
    (ap (λ (node : PlainNode). Some (let list : machine.OpenList = record { items = join around.items (roomless (Forest.cons node.label node.inner Forest.nil)); filling = around.filling } in list))
    c.built-node.ensures.built
    ∙ ap (λ k. Some (let list : machine.OpenList = record { items = join around.items (Forest.cons (built_label k (map plain_phrase_place c.args.frame.parts.items) 0) inner Forest.nil); filling = around.filling } in list))
    kind)
    c.with_node.ensures
