use Rattle.std.proofs.Common.{[], ◌∷◌, sym, refl, inl}
use Rattle.tables.specs.Rows.{rows_of}
use Rattle.record.specs.Table.{cell, claim, role_of}
use Rattle.record.proofs.Parts.{begun, one, whole, amiss, roles_store, roles_swap}
use Rattle.record.proofs.sections.Part.item.Goals as goal

pub returns-in_err-cell-in-Load : goal.returns-in_err-cell-in-Load
returns-in_err-cell-in-Load c =
    let b = begun c.args.self.bytes.now c.args.self.start (rows_of c.args.table.now) c.args.at.now (cell ∷ claim ∷ []) c.in_ok-code.ensures (rw c.in-Load.is refl) in
    amiss _ _ b c.from_residual-in_err-cell-in-Load.ensures.1 c.in_err-cell-in-Load.ensures

pub returns-in_err-claim-in-Load : goal.returns-in_err-claim-in-Load
returns-in_err-claim-in-Load c =
    let b = begun c.args.self.bytes.now c.args.self.start (rows_of c.args.table.now) c.args.at.now (cell ∷ claim ∷ []) c.in_ok-code.ensures (rw c.in-Load.is refl) in
    amiss _ _ (one b c.in_ok-cell-in-Load.ensures) c.from_residual-in_err-claim-in-Load.ensures.1 (inl c.in_err-claim-in-Load.ensures)

pub returns-in_err-cell-in-Store : goal.returns-in_err-cell-in-Store
returns-in_err-cell-in-Store c =
    let b = begun c.args.self.bytes.now c.args.self.start (rows_of c.args.table.now) c.args.at.now (cell ∷ role_of c.in-Store.source ∷ []) c.in_ok-code.ensures (rw c.in-Store.is (roles_store c.in-Store.source)) in
    amiss _ _ b c.from_residual-in_err-cell-in-Store.ensures.1 c.in_err-cell-in-Store.ensures

pub returns-in_err-operand-in-Store : goal.returns-in_err-operand-in-Store
returns-in_err-operand-in-Store c =
    let b = begun c.args.self.bytes.now c.args.self.start (rows_of c.args.table.now) c.args.at.now (cell ∷ role_of c.in-Store.source ∷ []) c.in_ok-code.ensures (rw c.in-Store.is (roles_store c.in-Store.source)) in
    amiss _ _ (one b c.in_ok-cell-in-Store.ensures) c.from_residual-in_err-operand-in-Store.ensures.1 c.in_err-operand-in-Store.ensures

pub returns-in_err-cell-in-Swap : goal.returns-in_err-cell-in-Swap
returns-in_err-cell-in-Swap c =
    let b = begun c.args.self.bytes.now c.args.self.start (rows_of c.args.table.now) c.args.at.now (cell ∷ role_of c.in-Swap.source ∷ claim ∷ []) c.in_ok-code.ensures (rw c.in-Swap.is (roles_swap c.in-Swap.source)) in
    amiss _ _ b c.from_residual-in_err-cell-in-Swap.ensures.1 c.in_err-cell-in-Swap.ensures

pub returns-in_err-operand-in-Swap : goal.returns-in_err-operand-in-Swap
returns-in_err-operand-in-Swap c =
    let b = begun c.args.self.bytes.now c.args.self.start (rows_of c.args.table.now) c.args.at.now (cell ∷ role_of c.in-Swap.source ∷ claim ∷ []) c.in_ok-code.ensures (rw c.in-Swap.is (roles_swap c.in-Swap.source)) in
    amiss _ _ (one b c.in_ok-cell-in-Swap.ensures) c.from_residual-in_err-operand-in-Swap.ensures.1 c.in_err-operand-in-Swap.ensures

pub returns-in_err-claim-in-Swap : goal.returns-in_err-claim-in-Swap
returns-in_err-claim-in-Swap c =
    let b = begun c.args.self.bytes.now c.args.self.start (rows_of c.args.table.now) c.args.at.now (cell ∷ role_of c.in-Swap.source ∷ claim ∷ []) c.in_ok-code.ensures (rw c.in-Swap.is (roles_swap c.in-Swap.source)) in
    amiss _ _ (one (one b c.in_ok-cell-in-Swap.ensures) c.in_ok-operand-in-Swap.ensures.1) c.from_residual-in_err-claim-in-Swap.ensures.1 (inl c.in_err-claim-in-Swap.ensures)

pub returns-in_ok-claim-in-Swap : goal.returns-in_ok-claim-in-Swap
returns-in_ok-claim-in-Swap c =
    let b = begun c.args.self.bytes.now c.args.self.start (rows_of c.args.table.now) c.args.at.now (cell ∷ role_of c.in-Swap.source ∷ claim ∷ []) c.in_ok-code.ensures (rw c.in-Swap.is (roles_swap c.in-Swap.source)) in
    let d = one (one (one b c.in_ok-cell-in-Swap.ensures) c.in_ok-operand-in-Swap.ensures.1) (c.in_ok-claim-in-Swap.ensures, refl) in
    whole c.line-in-Swap.result d (rw (c.in-Swap.is, sym c.in_ok-operand-in-Swap.ensures.0) c.line-in-Swap.ensures)
