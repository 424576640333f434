-- List files read and write back unchanged: what is laid in a buffer is taken out again, so the one answer of the second call is the list or the file that the
-- first began with. Assumes nothing.
use mathlib.Core.Path.{refl, ap}
use lib.ListN.{length}
use native.Mathlib.Omega.{arith}
use Rattle.numbers.specs.Series.{file_of, overlaid}
use Rattle.std.specs.Prelude.{Ok}
use Rattle.files.proofs.ComeBack.{taken}
use Rattle.gate_files.specs.ListFiles.{ReadsList, WritesList}
use Rattle.gate_files.specs.Theorems.{ListFilesComeBack, ListsComeBack}
use Rattle.gate_files.proofs.OneAnswer.{read_list_one_answer, write_list_one_answer}

pub list_files_come_back : ListFilesComeBack
list_files_come_back s words words' bytes bytes' n r (ws, f, l) w h =
    let e = taken l in
    let is = f.bytes in
    let again : WritesList ws bytes (Ok (length s)) (overlaid bytes 0 s)
    = (f.complete, record { count = ap length is; room = omega arith; after = ap (overlaid bytes 0) is }) in
    write_list_one_answer ws bytes bytes' (overlaid bytes 0 s) r (Ok (length s)) (rw e at w) again

pub lists_come_back : ListsComeBack
lists_come_back ws bytes bytes' words words' n r w (z, l) q h =
    let e = taken l in
    let again : ReadsList (file_of ws) words (Ok (length ws)) (overlaid words 0 ws)
    = (ws, record { complete = z; words = w; bytes = refl }, record { count = refl; room = omega arith; after = refl }) in
    read_list_one_answer (file_of ws) words words' (overlaid words 0 ws) r (Ok (length ws)) (rw e at q) again
