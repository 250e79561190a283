use Rattle.std.proofs.Common.{refl}
use Rattle.life_table.specs.Table.{inode_in, inode_of, set_inode, with_inode}
use Rattle.life_table.specs.Space.{begins_run, chunk_blocks, chunk_place, free_blocks, free_keys, inode_blocks, insert_chunk, is_free_block, keys_from, new_chunk, prepared, times, used}
use Rattle.actor_world.specs.Caches.{clean_numbers}
use Rattle.actor_world.specs.Lines.{Lines}
use Rattle.actor_world.specs.Moves.{awaiting_from, awaiting_of}
use Rattle.actor_world.specs.Runs.{finished, run}
use Rattle.actor_world.proofs.rows.rows_run.Goals as goal

pub returns-clause-reclaim_between_load_and_exchange : goal.returns-clause-reclaim_between_load_and_exchange
unfolding inode_in inode_of set_inode with_inode begins_run chunk_blocks chunk_place free_blocks free_keys inode_blocks insert_chunk is_free_block keys_from new_chunk prepared times used clean_numbers finished run
returns-clause-reclaim_between_load_and_exchange c = refl

pub returns-clause-open_between_commit_and_mark : goal.returns-clause-open_between_commit_and_mark
unfolding inode_in inode_of set_inode with_inode begins_run chunk_blocks chunk_place free_blocks free_keys inode_blocks insert_chunk is_free_block keys_from new_chunk prepared times used clean_numbers finished run
returns-clause-open_between_commit_and_mark c = refl

pub returns-clause-no_revival : goal.returns-clause-no_revival
unfolding inode_in inode_of set_inode with_inode begins_run chunk_blocks chunk_place free_blocks free_keys inode_blocks insert_chunk is_free_block keys_from new_chunk prepared times used clean_numbers finished run
returns-clause-no_revival c = refl

pub returns-clause-no_revival_lines : goal.returns-clause-no_revival_lines
unfolding inode_in inode_of set_inode with_inode begins_run chunk_blocks chunk_place free_blocks free_keys inode_blocks insert_chunk is_free_block keys_from new_chunk prepared times used awaiting_from awaiting_of Lines
returns-clause-no_revival_lines c = refl
