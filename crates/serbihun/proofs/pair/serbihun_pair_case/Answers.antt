-- `serbihun_pair_case` gives what `pair_case` and `put_huts` give.
use Rattle.serbihun.proofs.pair.serbihun_pair_case.Goals as goal

pub returns : goal.returns
returns c =
    record { promise = c.pair_case-pairs.ensures; huts_are = c.put_huts.ensures }
