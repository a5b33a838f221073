-- `report` meets its contract: the text of what `pair` gave, by the answer's number.
use borrow.Author.Rules.{rules}
use Rattle.pairing.proofs.Fronts.{fresh_room}
use Rattle.price_list.proofs.PromiseLaws.{listed}
use Rattle.price_list.proofs.ReportLaws.{report_list, report_block, report_refusal}
use Rattle.price_list.proofs.report.report.Goals as goal

pub put_list-requires : goal.put_list-requires
put_list-requires c = let paired = c.pair-pairs.ensures in rw paired.size.0 (listed paired.promise fresh_room c.if-pairs-eq0.true)

pub returns-then-pairs-eq0 : goal.returns-then-pairs-eq0
returns-then-pairs-eq0 c =
    let begun = c.begin-text.ensures in
    let paired = c.pair-pairs.ensures in
    let put_there = rw (begun.same_bytes, begun.none_used, paired.size.0, paired.size.1) at c.put_list.ensures.puts in
    report_list paired.promise paired.huts c.if-pairs-eq0.true c.sum.ensures c.sum-then-pairs-eq0.ensures (search (rules, put_there))

pub returns-then-pairs-eq6 : goal.returns-then-pairs-eq6
returns-then-pairs-eq6 c =
    let begun = c.begin-text.ensures in
    let paired = c.pair-pairs.ensures in
    let put_there = rw (begun.same_bytes, begun.none_used, paired.size.0, paired.size.1) at c.put_block.ensures.puts in
    report_block paired.promise paired.huts c.if-pairs-eq6.true (search (rules, put_there))

pub returns : goal.returns
returns c =
    let begun = c.begin-text.ensures in
    let paired = c.pair-pairs.ensures in
    let put_there = rw (begun.same_bytes, begun.none_used) at c.put_refusal.ensures.puts in
    report_refusal paired.promise paired.huts c.if-pairs-eq0.false c.if-pairs-eq6.false (search (rules, put_there))
