use Rattle.std.proofs.lemmas.Result.{err_from_is_err_and}
use Rattle.loop_disk.proofs.Moments.{called_on}
use Rattle.loop_store.proofs.FormatReads.{closed-on, closed-or_empty, empty-on}
use Rattle.loop_store.proofs.fresh.lay_out.Goals as goal

pub returns-in_err-unformat : goal.returns-in_err-unformat
returns-in_err-unformat g c =
    let p = err_from_is_err_and c.from_residual.result c.from_residual.ensures.1 in
    rw (p.1, p.2) (record {
      moments = λ honest. closed-or_empty c.args.head.now _ _ (c.unformat.ensures.moments honest);
      such = λ honest. tt;
      called = c.in_err-unformat.ensures.called;
    })

pub returns-in_err-write_front : goal.returns-in_err-write_front
returns-in_err-write_front g c =
    let p = err_from_is_err_and c.from_residual-in_err-write_front.result c.from_residual-in_err-write_front.ensures.1 in
    rw (p.1, p.2) (record {
      moments = λ honest. closed-or_empty c.args.head.now _ _
          (closed-on _ _ _ (c.unformat.ensures.moments honest)
          (c.write_front.ensures.moments (c.in_ok-unformat.ensures.called.honest.0 honest)));
      such = λ honest. tt;
      called = called_on _ _ _ _ c.in_ok-unformat.ensures.called c.in_err-write_front.ensures.called;
    })

pub returns-in_err-write_headers : goal.returns-in_err-write_headers
returns-in_err-write_headers g c =
    let p = err_from_is_err_and c.from_residual-in_err-write_headers.result c.from_residual-in_err-write_headers.ensures.1 in
    let front = called_on _ _ _ _ c.in_ok-unformat.ensures.called c.in_ok-write_front.ensures.called in
    rw (p.1, p.2) (record {
      moments = λ honest.
          closed-or_empty c.args.head.now _ _
          (closed-on _ _ _ (closed-on _ _ _ (c.unformat.ensures.moments honest)
          (c.write_front.ensures.moments (c.in_ok-unformat.ensures.called.honest.0 honest)))
          (c.write_headers.ensures.moments (front.honest.0 honest)));
      such = λ honest. tt;
      called = called_on _ _ _ _ front c.in_err-write_headers.ensures.called;
    })

pub returns : goal.returns
returns g c =
    let front = called_on _ _ _ _ c.in_ok-unformat.ensures.called c.in_ok-write_front.ensures.called in
    let laid = called_on _ _ _ _ front c.in_ok-write_headers.ensures.called in record {
      moments = λ honest.
          empty-on c.args.head.now _ _ _
          (closed-on _ _ _ (closed-on _ _ _ (c.unformat.ensures.moments honest)
          (c.write_front.ensures.moments (c.in_ok-unformat.ensures.called.honest.0 honest)))
          (c.write_headers.ensures.moments (front.honest.0 honest)))
          (c.finish.ensures.moments (laid.honest.0 honest));
      such = λ honest. c.finish.ensures.such (laid.honest.0 honest);
      called = called_on _ _ _ _ laid c.finish.ensures.called;
    }
