-- `fail` meets its contract: what is written, piece after piece, is the line.
use Rattle.std.proofs.Common.{◌++◌, ℕ, List, [], ◌∷◌}
use Rattle.std.specs.declared.option.Option.{Option}
use Rattle.std.specs.Io.KnownBytes.{Appends}
use Rattle.std.proofs.lemmas.Result.{on_ok_weaker}
use Rattle.std.proofs.KnownBytes.{Appends-trans}
use Rattle.input.specs.Line.{SaysLine}
use Rattle.input.proofs.failure.fail.Goals as goal

ended : (a b c : Option (List ℕ)) (what why : List ℕ) → Appends a b (what ++ (58 ∷ 32 ∷ []) ++ why) → Appends b c (10 ∷ []) → SaysLine a c what
ended a b c what why told end = (why, Appends-trans a b c _ _ told end)

pub returns : goal.returns
returns g c =
    let colon = Appends-trans _ _ _ _ _ c.in_ok-write_all.ensures.bytes c.in_ok-write_all-2.ensures.bytes in
    let why = Appends-trans _ _ _ _ _ colon c.in_ok-write_all-3.ensures.bytes in
    on_ok_weaker _ (ended _ _ _ c.args.what.now _ why) c.write_all-4.ensures.bytes
