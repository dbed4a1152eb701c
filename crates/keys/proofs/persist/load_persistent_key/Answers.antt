-- `keys::persist::load_persistent_key`: as get into an array of its own, then 13, then the file at the front of the buffer.
use mathlib.Core.Path.{◌≡◌, refl, sym, ap, ◌∙◌}
use mathlib.Core.List.{[], ◌∷◌}
use native.Mathlib.Omega.{arith}
use lib.ListN.{length, take}
use lib.Seq.{length-take-le}
use Rattle.store.specs.Answers.{code}
use Rattle.spec.specs.Status.{first_of, Answer, buffer_answer, bytes_given}
use Rattle.spec.proofs.Status.{answer-refused, answer-done}
use Rattle.buffers.proofs.Lists.{in_front}
use Rattle.keys.specs.Calls.{key_record, load_tests, load_key}
use Rattle.store.proofs.Tests.{handed_on, refused_number}
use Rattle.keys.proofs.Written.{short_buffer}
use Rattle.keys.proofs.Loaded.{not-got, not-a-file, loads, count-within-file, file-valid, file-invalid}
use Rattle.keys.proofs.persist.load_persistent_key.Goals as goal

pub returns-then-key_buf-lt-MAX_KEY_FILE : goal.returns-then-key_buf-lt-MAX_KEY_FILE
unfolding load_key load_tests
returns-then-key_buf-lt-MAX_KEY_FILE c =
    let buf = c.args.key_buf.now in
    answer-refused 1 _ _ buf (short_buffer buf _ c.if-key_buf-lt-MAX_KEY_FILE.true) (omega arith)

pub returns-in_err-count : goal.returns-in_err-count
unfolding load_key key_record
returns-in_err-count c =
    let a = c.args in
    let e = c.in_err-count.field-0.0 in
    let g : Answer = record { status = code e; numbers = 0 ∷ []; output = c.get_key.new.file } in
    let buf = a.key_buf.now in
    let refused = not-got a.kv.now a.rbp.now a.device_key.now a.key_id buf c.if-key_buf-lt-MAX_KEY_FILE.false g c.in_err-count.ensures (refused_number e) in
    rw (handed_on c.from_residual.result e c.from_residual.ensures) (answer-refused (code e) _ _ buf refused (refused_number e))

pub slice_bounds-file-end : goal.slice_bounds-file-end
unfolding key_record
slice_bounds-file-end c =
    let a = c.args in
    count-within-file a.kv.now a.rbp.now a.device_key.now a.key_id _ _ c.in_ok-count.ensures c.get_key.auto.file

pub slice_bounds-found-end : goal.slice_bounds-found-end
unfolding key_record
slice_bounds-found-end c =
    let a = c.args in
    let fits = count-within-file a.kv.now a.rbp.now a.device_key.now a.key_id _ _ c.in_ok-count.ensures c.get_key.auto.file in
    sym (length-take-le c.in_ok-count.count c.get_key.new.file fits)

pub returns-in_err-parse_key_file : goal.returns-in_err-parse_key_file
unfolding load_key key_record
returns-in_err-parse_key_file c =
    let a = c.args in
    let r = c.from_residual-in_err-parse_key_file in
    let e = c.in_err-parse_key_file.field-0.0 in
    let g : Answer = record { status = 0; numbers = c.in_ok-count.count ∷ []; output = c.get_key.new.file } in
    let buf = a.key_buf.now in
    let room = c.if-key_buf-lt-MAX_KEY_FILE.false in
    let invalid = file-invalid (bytes_given g) e c.in_err-parse_key_file.ensures in
    let refused = not-a-file a.kv.now a.rbp.now a.device_key.now a.key_id buf room g c.in_ok-count.ensures refl invalid.0 in
    rw (handed_on r.result e r.ensures, invalid.1) (answer-refused 13 _ _ buf refused (omega arith))

pub returns : goal.returns
unfolding load_key key_record
returns c =
    let a = c.args in
    let count = c.in_ok-count.count in
    let file = c.get_key.new.file in
    let g : Answer = record { status = 0; numbers = count ∷ []; output = file } in
    let buf = a.key_buf.now in
    let valid = file-valid (bytes_given g) _ c.in_ok-parse_key_file.ensures in
    let done = loads a.kv.now a.rbp.now a.device_key.now a.key_id buf c.if-key_buf-lt-MAX_KEY_FILE.false g c.in_ok-count.ensures refl valid in
    let out = in_front _ (bytes_given g) buf _ c.paste.ensures refl in
    let fits = count-within-file a.kv.now a.rbp.now a.device_key.now a.key_id count file c.in_ok-count.ensures c.get_key.auto.file in
    let size : count ≡ length (take count file) = sym (length-take-le count file fits) in
    let status = first_of (load_tests a.kv.now a.rbp.now a.device_key.now a.key_id buf) in
    answer-done status count (bytes_given g) buf _ done size out ∙ ap (λ (x : Answer). buffer_answer status (bytes_given x) buf) c.in_ok-count.ensures
