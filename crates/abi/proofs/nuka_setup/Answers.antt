use Rattle.abi.proofs.AbiCode.{lent_72, lent_2, setup-lost, setup-said}
use Rattle.abi.proofs.nuka_setup.Goals as goal

pub returns-then-not-lent_ok : goal.returns-then-not-lent_ok
returns-then-not-lent_ok c = setup-lost _ _ _ c.lent_ok.ensures c.if-not-lent_ok.true c.from.ensures

pub hand_out-requires : goal.hand_out-requires
hand_out-requires c = record {
  rec_len = lent_72 _ _ c.lent_ok.ensures c.if-not-lent_ok.false;
  out_len = lent_2 _ _ c.lent_ok.ensures c.if-not-lent_ok.false;
}

pub returns : goal.returns
returns c =
    setup-said _ _ _ c.lent_ok.ensures c.if-not-lent_ok.false _ _ _ c.setup-x.ensures c.image_of-r.ensures
    c.hand_out.ensures.number c.hand_out.ensures.rec c.hand_out.ensures.out
