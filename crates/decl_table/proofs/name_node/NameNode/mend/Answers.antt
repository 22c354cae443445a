use Rattle.std.proofs.Common.{arith, ap, sym, ◌∙◌, subst}
use Rattle.decl_table.specs.DeclEdit.{NameMend, MayMendName, name_mended}
use Rattle.decl_table.specs.declared.name_edit.NameMend.{NameMend as Mend}
use Rattle.decl_table.specs.Private.NameMendView.{plain_mend}
use Rattle.decl_table.specs.Private.PlainNameNode.{PlainNameNode, node_names}
use Rattle.decl_table.proofs.MendedNameLists.{insides_length, item_there, list_inserted, list_parts, list_removed, list_set}
use Rattle.decl_table.proofs.name_node.NameNode.mend.Goals as goal

pub put-requires : goal.put-requires
put-requires c =
    let inner = c.args.self.now.inner in
    let may : MayMendName (NameMend.put (node_names c.in-Put.item)) c.args.k inner =
    subst (λ a. MayMendName (plain_mend a) c.args.k inner) c.in-Put.is c.requires.there in
    record { there = omega (arith, may, insides_length inner) }

pub returns-in-Put : goal.returns-in-Put
returns-in-Put c =
    let old = c.args.self.now in
    c.put.ensures
    ∙ ap (λ l. let n : PlainNameNode = record old { inner = l } in n) (sym (list_set c.in-Put.item c.args.k old.inner))
    ∙ ap (λ (a : Mend). let n : PlainNameNode = record old { inner = name_mended (plain_mend a) c.args.k old.inner } in n) (sym c.in-Put.is)

pub add-requires-clause-there : goal.add-requires-clause-there
add-requires-clause-there c =
    let inner = c.args.self.now.inner in
    let may : MayMendName (NameMend.add (node_names c.in-Add.item) c.in-Add.room) c.args.k inner =
    subst (λ a. MayMendName (plain_mend a) c.args.k inner) c.in-Add.is c.requires.there in
    omega (arith, may.0, insides_length inner)

pub add-requires-clause-fits : goal.add-requires-clause-fits
add-requires-clause-fits c =
    let inner = c.args.self.now.inner in
    let may : MayMendName (NameMend.add (node_names c.in-Add.item) c.in-Add.room) c.args.k inner =
    subst (λ a. MayMendName (plain_mend a) c.args.k inner) c.in-Add.is c.requires.there in
    omega (arith, may.1, insides_length inner)

pub returns-in-Add : goal.returns-in-Add
returns-in-Add c =
    let old = c.args.self.now in
    let may : MayMendName (NameMend.add (node_names c.in-Add.item) c.in-Add.room) c.args.k old.inner =
    subst (λ a. MayMendName (plain_mend a) c.args.k old.inner) c.in-Add.is c.requires.there in
    c.add.ensures
    ∙ ap (λ l. let n : PlainNameNode = record old { inner = l } in n)
    (sym (list_inserted c.in-Add.item c.args.k old.inner (omega (arith, may.0, insides_length old.inner))))
    ∙ ap (λ (a : Mend). let n : PlainNameNode = record old { inner = name_mended (plain_mend a) c.args.k old.inner } in n) (sym c.in-Add.is)

pub drop_item-requires : goal.drop_item-requires
drop_item-requires c =
    let inner = c.args.self.now.inner in
    let may : MayMendName NameMend.drop c.args.k inner = subst (λ a. MayMendName (plain_mend a) c.args.k inner) c.in-Drop.is c.requires.there in
    record { there = omega (arith, may, insides_length inner) }

pub returns-in-Drop : goal.returns-in-Drop
returns-in-Drop c =
    let old = c.args.self.now in
    c.drop_item.ensures
    ∙ ap (λ l. let n : PlainNameNode = record old { inner = l } in n) (sym (list_removed c.args.k old.inner))
    ∙ ap (λ (a : Mend). let n : PlainNameNode = record old { inner = name_mended (plain_mend a) c.args.k old.inner } in n) (sym c.in-Drop.is)

pub set_parts-requires : goal.set_parts-requires
set_parts-requires c =
    let inner = c.args.self.now.inner in
    let may : MayMendName (NameMend.set_parts c.in-SetParts.other.label) c.args.k inner =
    subst (λ a. MayMendName (plain_mend a) c.args.k inner) c.in-SetParts.is c.requires.there in
    record { there = omega (arith, may, insides_length inner) }

pub returns-in-SetParts : goal.returns-in-SetParts
returns-in-SetParts c =
    let old = c.args.self.now in
    let may : MayMendName (NameMend.set_parts c.in-SetParts.other.label) c.args.k old.inner =
    subst (λ a. MayMendName (plain_mend a) c.args.k old.inner) c.in-SetParts.is c.requires.there in
    let found = item_there old.inner c.args.k may in
    c.set_parts.ensures found.0 found.1
    ∙ ap (λ l. let n : PlainNameNode = record old { inner = l } in n) (sym (list_parts c.in-SetParts.other c.args.k old.inner found.0 found.1))
    ∙ ap (λ (a : Mend). let n : PlainNameNode = record old { inner = name_mended (plain_mend a) c.args.k old.inner } in n) (sym c.in-SetParts.is)
